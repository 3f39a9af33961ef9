use Rattle.line_unit.specs.Runs.{chorus-ran}
use Rattle.line_unit.proofs.chorus.Goals as goal

pub returns : goal.returns
returns c =
    let b = c.chorus_block-next in
    rw (← c.chorus_base.ensures, ← c.number.ensures, ← c.chorus_swing.ensures, ← c.number-2.ensures, ← c.u32_to_f32-srf.ensures, ← c.number-3.ensures, ← c.clamp.ensures)
    (chorus-ran _ _ _ _ _ _ b.result c.requires.0 b.ensures.0 b.ensures.1)
