use Rattle.std.proofs.Common.{rules}
use Rattle.proc_block.specs.Steps.{level_step}
use Rattle.proc_block.proofs.compress_levels.Goals as goal

pub returns : goal.returns
unfolding level_step
returns c = c.run_block.ensures (level_step _ _) (λ k s r h p. search rules)
