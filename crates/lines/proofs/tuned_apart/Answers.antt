-- `lines::tuned_apart` meets its contract. Assumes nothing.
use Rattle.lines.specs.Lines.{tuned_line}
use Rattle.lines.proofs.tuned_apart.Goals as goal

pub returns : goal.returns
unfolding tuned_line
returns c = λ n sr e f. rw (c.at_least_one.ensures, c.f32_to_u64.ensures, e, f)
