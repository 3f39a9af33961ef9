use Rattle.trig.specs.Trig.{sin_of}
use Rattle.trig.proofs.sin.Goals as goal

pub returns : goal.returns
unfolding sin_of
returns c = rw (c.sin_reduced.ensures, c.reduce_2pi.ensures)
