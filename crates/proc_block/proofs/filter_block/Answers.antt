use Rattle.std.proofs.Common.{rules}
use Rattle.proc_block.specs.Steps.{filter_step}
use Rattle.proc_block.proofs.filter_block.Goals as goal

pub returns : goal.returns
unfolding filter_step
returns c = c.run_block.ensures (filter_step _ _ _) (λ k s r h p. search rules)
