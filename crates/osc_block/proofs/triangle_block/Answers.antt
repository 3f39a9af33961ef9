use Rattle.std.proofs.Common.{rules}
use Rattle.osc_block.specs.Steps.{triangle_step}
use Rattle.osc_block.proofs.triangle_block.Goals as goal

pub returns : goal.returns
unfolding triangle_step
returns c = c.run_block.ensures (triangle_step c.args.w) (λ k s r h p. search rules)
