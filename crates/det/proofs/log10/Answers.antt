use Rattle.det.specs.Log.{log10_of}
use Rattle.det.proofs.Ten.{ln-ten}
use Rattle.det.proofs.log10.Goals as goal

pub returns : goal.returns
unfolding log10_of
returns c = rw (ln-ten, c.ln.ensures)
