use Rattle.std.proofs.Common.{refl, sym, ◌∙◌, length, arith}
use Rattle.tree.specs.Block.{fill_start, fill-turn, fill_end}
use Rattle.tree.specs.Lists.{tab-same, map-const}
use Rattle.block.proofs.fill_block.Goals as goal

pub loop-y-init : goal.loop-y-init
loop-y-init c = fill_start _ _

pub loop-y-preserved : goal.loop-y-preserved
loop-y-preserved c = fill-turn c.loop-y.invariant (omega arith) refl

pub returns : goal.returns
returns c =
    let a = c.args in
    fill_end c.loop-y.invariant (omega arith) ∙ tab-same (length a.out.now) a.x ∙ sym (map-const a.x a.out.now)
