use mathlib.Core.Path.{◌≡◌}
use mathlib.Core.List.{◌++◌}
use Prim.Native.Nat.{◌≤◌}
use lib.ListN.{length, drop}
use Rattle.layout.specs.Needs.{cells_from}
use Rattle.machine.specs.Build.{started_cells}
use Rattle.state.proofs.begin.cells.Given as goal

abbrev pub invariant-loop-i : goal.invariant-loop-i
invariant-loop-i l = (l.i ≤ l.plan.count) × (length l.cells ≡ length l.initial.cells) × (l.cells ≡ started_cells l.plan.sheet.now l.i ++ drop (cells_from l.plan.sheet.now l.i) l.initial.cells)
