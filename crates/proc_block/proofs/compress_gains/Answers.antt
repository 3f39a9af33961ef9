use Rattle.std.proofs.Common.{rules}
use Rattle.proc_block.specs.Steps.{level_gain_step}
use Rattle.proc_block.proofs.compress_gains.Goals as goal

pub returns : goal.returns
unfolding level_gain_step
returns c = (c.run_block.ensures (level_gain_step _ _ c.args.c) (λ k s r h p. search rules)).0
