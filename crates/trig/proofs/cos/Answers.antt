use Rattle.trig.specs.Trig.{cos_of}
use Rattle.trig.proofs.cos.Goals as goal

pub returns : goal.returns
unfolding cos_of
returns c = c.sin.ensures
