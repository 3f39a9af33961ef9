use Rattle.std.proofs.Common.{◌*◌}
use Rattle.std.specs.Float.{nan}
use Rattle.block.specs.Loop.{Going}
use Rattle.modal_block.specs.Modal.{modal_step}
use Rattle.modal_block.proofs.modal_block.Given as goal

abbrev pub invariant-loop-i : goal.invariant-loop-i
invariant-loop-i l = Going nan (modal_step l.fn.out l.mix l.n) l.fn.cells l.fn.out (4 * l.i) l.out l.cells

abbrev pub invariant-loop-k : goal.invariant-loop-k
invariant-loop-k l = Going nan (modal_step l.fn.out l.mix l.n) l.fn.cells l.fn.out l.k l.out l.cells
