-- `lines::chorus_base` meets its contract. Assumes nothing.
use Rattle.lines.specs.Lines.{chorus_base}
use Rattle.lines.proofs.chorus_base.Goals as goal

pub returns : goal.returns
unfolding chorus_base
returns c = rw c.u32_to_f32.ensures
