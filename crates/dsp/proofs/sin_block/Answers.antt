use Rattle.std.proofs.Common.{◌∙◌, arith}
use Rattle.tree.specs.Block.{fill_start, fill-turn, fill_end, fill-rest}
use Rattle.dsp.specs.Map.{tab-map}
use Rattle.dsp.proofs.sin_block.Goals as goal

pub loop-x-init : goal.loop-x-init
loop-x-init c = fill_start _ _

pub loop-x-preserved : goal.loop-x-preserved
loop-x-preserved c =
    let l = c.loop-x in
    fill-turn l.invariant (omega arith) (rw (fill-rest l.invariant (omega arith) _) at c.sin.ensures)

pub returns : goal.returns
returns c = fill_end c.loop-x.invariant (omega arith) ∙ tab-map _ _ _
