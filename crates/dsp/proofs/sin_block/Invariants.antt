use Rattle.std.proofs.Common.{get_or}
use Rattle.std.specs.Float.{nan}
use Rattle.tree.specs.Block.{Filled}
use Rattle.dsp.specs.Math.{sine}
use Rattle.dsp.proofs.sin_block.Given as goal

abbrev pub invariant-loop-x : goal.invariant-loop-x
invariant-loop-x l = Filled (λ i. sine (get_or l.initial.xs i nan)) l.initial.xs l.xs l.x-index
