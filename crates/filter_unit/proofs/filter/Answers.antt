use Rattle.std.proofs.Common.{ap, ◌∙◌}
use Rattle.unit.specs.Processors.{filter_cells}
use Rattle.filter_unit.specs.Runs.{filter-ran}
use Rattle.filter_unit.proofs.filter.Goals as goal

pub returns : goal.returns
returns c =
    let l = c.load_filter-s in
    let b = c.filter_block-t in
    λ ctl rs. rw (← c.filter_kind.ensures, ← c.filter_q.ensures)
    (filter-ran ctl _ _ l.result c.requires.0 l.ensures b.ensures.0 (c.store_filter.ensures ∙ ap filter_cells b.ensures.1))
