use Rattle.proc_unit.specs.Fit.{filter-cells, filter-of}
use Rattle.proc_unit.proofs.play_filter.Goals as goal

pub filter-requires : goal.filter-requires
filter-requires c = (filter-cells _ c.requires.0, c.requires.1)

pub returns : goal.returns
returns c = λ ctl rs. rw (filter-of _ c.requires.0 c.at-r.ensures c.rate.ensures) (c.filter.ensures ctl rs)
