use Rattle.control.specs.Moves.{moved}
use Rattle.glide.proofs.glide_on.Goals as goal

pub returns : goal.returns
unfolding moved
returns c = rw c.glide_step.ensures
