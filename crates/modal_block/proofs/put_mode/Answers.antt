use Rattle.std.proofs.Common.{refl, length-set, arith}
use Rattle.modal_block.specs.Modal.{put_mode}
use Rattle.modal_block.proofs.put_mode.Goals as goal

pub returns : goal.returns
unfolding put_mode
returns c = (refl, simp length-set)

pub bounds-cells-i-2 : goal.bounds-cells-i-2
bounds-cells-i-2 c = simp length-set (omega arith)
