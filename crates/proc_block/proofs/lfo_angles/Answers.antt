use Rattle.std.proofs.Common.{rules}
use Rattle.proc_block.specs.Steps.{angle_step}
use Rattle.proc_block.proofs.lfo_angles.Goals as goal

pub returns : goal.returns
unfolding angle_step
returns c = (c.run_block.ensures (angle_step _ _ _) (λ k s r h p. search rules)).0
