use Rattle.filter_unit.specs.Runs.{compress-ran}
use Rattle.filter_unit.proofs.compress.Goals as goal

pub returns : goal.returns
returns c =
    let b = c.compress_block-env in
    λ ctl rs. rw (← c.number.ensures, ← c.number-2.ensures, ← c.max.ensures)
    (compress-ran ctl _ _ b.result c.requires.0 b.ensures.0 b.ensures.1)
