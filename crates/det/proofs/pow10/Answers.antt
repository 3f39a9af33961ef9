use Rattle.det.specs.Log.{pow_of}
use Rattle.det.proofs.Ten.{ln-ten, ten-some, ten-above}
use Rattle.det.proofs.pow10.Goals as goal

pub returns-then-y : goal.returns-then-y
unfolding pow_of
returns-then-y c = rw c.if-y.true

pub returns-else-y : goal.returns-else-y
unfolding pow_of
returns-else-y c = rw (c.exp.ensures, ln-ten, c.if-y.false, ten-some, ten-above)
