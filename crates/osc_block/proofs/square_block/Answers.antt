use Rattle.std.proofs.Common.{rules}
use Rattle.osc_block.specs.Steps.{square_step}
use Rattle.osc_block.proofs.square_block.Goals as goal

pub returns : goal.returns
unfolding square_step
returns c = c.run_block.ensures (square_step c.args.w _) (λ k s r h p. search rules)
