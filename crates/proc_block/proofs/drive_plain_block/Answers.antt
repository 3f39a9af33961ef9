use Rattle.std.proofs.Common.{rules}
use Rattle.proc_block.specs.Steps.{drive_plain_step}
use Rattle.proc_block.proofs.drive_plain_block.Goals as goal

pub returns : goal.returns
unfolding drive_plain_step
returns c = (c.run_block.ensures (drive_plain_step _ _ _) (λ k s r h p. search rules)).0
