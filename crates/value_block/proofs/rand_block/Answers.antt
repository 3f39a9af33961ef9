use Rattle.std.proofs.Common.{rules}
use Rattle.value_block.specs.Steps.{rand_step}
use Rattle.value_block.proofs.rand_block.Goals as goal

pub returns : goal.returns
unfolding rand_step
returns c = c.run_block.ensures (rand_step _ _ _) (λ k s r h p. search rules)
