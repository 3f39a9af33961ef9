use Rattle.std.proofs.Common.{rules}
use Rattle.noise_block.specs.Steps.{dust_step}
use Rattle.noise_block.proofs.dust_block.Goals as goal

pub returns : goal.returns
unfolding dust_step
returns c = c.run_block.ensures (dust_step _ _) (λ k s r h p. search rules)
