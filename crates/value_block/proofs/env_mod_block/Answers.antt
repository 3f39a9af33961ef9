use Rattle.std.proofs.Common.{rules}
use Rattle.value_block.specs.Steps.{env_mod_step}
use Rattle.value_block.proofs.env_mod_block.Goals as goal

pub returns : goal.returns
unfolding env_mod_step
returns c = (c.run_block.ensures (env_mod_step _ _ _ _) (λ k s r h p. search rules)).0
