use Rattle.std.proofs.Common.{rules}
use Rattle.noise_block.specs.Steps.{pink_step}
use Rattle.noise_block.proofs.pink_block.Goals as goal

pub returns : goal.returns
unfolding pink_step
returns c = c.run_block.ensures pink_step (λ k s r h p. search rules)
