use Rattle.proc_unit.specs.Runs.{tremolo-ran}
use Rattle.proc_unit.proofs.tremolo.Goals as goal

pub returns : goal.returns
returns c =
    λ cs rs. rw (← c.number-rate.ensures, ← c.number-depth.ensures, ← c.u32_to_f32-srf.ensures)
    (tremolo-ran _ _ _ _ c.tremolo_block.ensures)
