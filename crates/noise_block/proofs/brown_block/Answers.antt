use Rattle.std.proofs.Common.{rules}
use Rattle.noise_block.specs.Steps.{brown_step}
use Rattle.noise_block.proofs.brown_block.Goals as goal

pub returns : goal.returns
unfolding brown_step
returns c = c.run_block.ensures brown_step (λ k s r h p. search rules)
