use mathlib.Core.Path.{◌≡◌}
use Prim.Native.Nat.{◌≤◌}
use lib.ListN.{length}
use Rattle.machine.specs.Machine.{scaled}
use Rattle.state.proofs.set_cutoff.Given as goal

abbrev pub invariant-loop-i : goal.invariant-loop-i
invariant-loop-i l = (l.i ≤ l.plan.count) × (length l.cells ≡ length l.initial.cells) × (l.cells ≡ scaled l.plan.sheet.now l.x l.i l.initial.cells)
