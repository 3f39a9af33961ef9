use Rattle.std.proofs.Common.{rules}
use Rattle.osc_block.specs.Steps.{saw_step}
use Rattle.osc_block.proofs.saw_block.Goals as goal

pub returns : goal.returns
unfolding saw_step
returns c = c.run_block.ensures (saw_step c.args.w) (λ k s r h p. search rules)
