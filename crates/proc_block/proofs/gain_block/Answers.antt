use Rattle.std.proofs.Common.{rules}
use Rattle.proc_block.specs.Steps.{gain_step}
use Rattle.proc_block.proofs.gain_block.Goals as goal

pub returns : goal.returns
unfolding gain_step
returns c = (c.run_block.ensures (gain_step _ _) (λ k s r h p. search rules)).0
