use Rattle.std.proofs.Common.{◌∙◌, rules}
use Rattle.source_block.specs.Steps.{env_step, seconds_step, env_level_step}
use Rattle.source_block.proofs.Passes.{given-env}
use Rattle.source_block.proofs.env_block.Goals as goal

pub returns-then-t-out-le16777216 : goal.returns-then-t-out-le16777216
unfolding seconds_step env_level_step
returns-then-t-out-le16777216 c =
    let ys = (c.run_block.ensures (seconds_step _ _) (λ k s r h p. search rules)).0 in
    (c.run_block-then-t-out-le16777216.ensures (env_level_step _ _ _) (λ k s r h p. search rules)).0 ∙ given-env _ _ _ _ _ _ ys

pub returns-else-t-out-le16777216 : goal.returns-else-t-out-le16777216
unfolding env_step
returns-else-t-out-le16777216 c = (c.run_block-else-t-out-le16777216.ensures (env_step _ _ _ _) (λ k s r h p. search rules)).0
