use Rattle.std.proofs.Common.{rules}
use Rattle.noise_block.specs.Steps.{white_step}
use Rattle.noise_block.proofs.white_block.Goals as goal

pub returns : goal.returns
unfolding white_step
returns c = c.run_block.ensures white_step (λ k s r h p. search rules)
