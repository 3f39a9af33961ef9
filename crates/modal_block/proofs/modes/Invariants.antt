use Rattle.std.proofs.Common.{◌≡◌, length}
use Rattle.std.specs.Float.{nan}
use Rattle.block.specs.Loop.{Going}
use Rattle.modal_block.specs.Modes.{sums, so_far, mode_turn}
use Rattle.modal_block.proofs.modes.Given as goal

abbrev pub invariant-loop-k : goal.invariant-loop-k
invariant-loop-k g l = (l.wet ≡ sums (so_far l.x l.initial.cells l.k).0) × (l.cells ≡ (so_far l.x l.initial.cells l.k).1) × (length l.cells ≡ length l.initial.cells)

abbrev pub invariant-loop-j : goal.invariant-loop-j
invariant-loop-j g l = Going nan (mode_turn l.x l.initial.wet) l.initial.mode l.initial.wet l.j l.wet l.mode
