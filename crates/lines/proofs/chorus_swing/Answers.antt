-- `lines::chorus_swing` meets its contract. Assumes nothing.
use Rattle.lines.specs.Lines.{chorus_swing}
use Rattle.lines.proofs.chorus_swing.Goals as goal

pub returns : goal.returns
unfolding chorus_swing
returns c = rw (c.u32_to_f32.ensures, c.clamp.ensures)
