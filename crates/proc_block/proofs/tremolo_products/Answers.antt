use Rattle.std.proofs.Common.{rules}
use Rattle.proc_block.specs.Steps.{tremolo_by_step}
use Rattle.proc_block.proofs.tremolo_products.Goals as goal

pub returns : goal.returns
unfolding tremolo_by_step
returns c = (c.run_block.ensures (tremolo_by_step _ _ _) (λ k s r h p. search rules)).0
