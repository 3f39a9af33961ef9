use Rattle.line_unit.specs.Runs.{delay-ran}
use Rattle.line_unit.proofs.delay.Goals as goal

pub returns : goal.returns
returns c =
    let b = c.delay_block-w in
    λ ctl. rw (← c.number-feedback.ensures)
    (delay-ran ctl _ b.result c.requires.0 b.ensures.0 b.ensures.1)
