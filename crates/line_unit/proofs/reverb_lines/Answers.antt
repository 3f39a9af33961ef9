use Rattle.line_unit.specs.Runs.{reverb-ran}
use Rattle.line_unit.proofs.reverb_lines.Goals as goal

pub returns : goal.returns
returns c =
    let b = c.reverb_block in
    λ ctl sr e. rw (← c.number.ensures, ← c.freeverb_feedback-feedback.ensures, ← c.number-2.ensures, ← c.clamp-mix.ensures)
    (reverb-ran ctl _ _ sr _ e b.ensures.0 b.ensures.1)
