use Rattle.std.proofs.Common.{◌+◌, List}
use Rattle.std.specs.Prelude.{Float}
use Rattle.std.specs.Float.{nan}
use Rattle.block.specs.Iterate.{after}
use Rattle.block.specs.Loop.{Going}
use Rattle.modal_block.specs.Modal.{modal_step}
use Rattle.modal_block.proofs.modal_at.Given as goal

abbrev pub invariant-loop-j : goal.invariant-loop-j
invariant-loop-j g l = (xs cs : List Float) → Going nan (modal_step xs l.mix l.n) cs xs l.k l.fn.out l.fn.cells → Going nan (modal_step xs l.mix l.n) cs xs (l.k + l.j) l.out (after (modal_step xs l.mix l.n) cs (l.k + l.j))
