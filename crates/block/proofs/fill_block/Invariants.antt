-- The samples so far are x.
use Rattle.tree.specs.Block.{Filled}
use Rattle.block.proofs.fill_block.Given as goal

abbrev pub invariant-loop-y : goal.invariant-loop-y
invariant-loop-y l = Filled (λ i. l.x) l.initial.out l.out l.y-index
