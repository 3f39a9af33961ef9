use Rattle.proc_block.proofs.Zero.{ln_cosh_zero}
use Rattle.proc_block.proofs.drive_ln_coshes.Goals as goal

pub invariant_of-last : goal.invariant_of-last
invariant_of-last c = record { held = ln_cosh_zero }
