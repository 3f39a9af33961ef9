use Rattle.proc_block.proofs.Zero.{decay_zero}
use Rattle.proc_block.proofs.drive_decays.Goals as goal

pub invariant_of-last : goal.invariant_of-last
invariant_of-last c = record { held = decay_zero }
