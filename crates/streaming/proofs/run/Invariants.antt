use mathlib.Core.Path.{◌≡◌}
use Prim.Native.Nat.{◌-◌}
use lib.ListN.{length}
use Rattle.streaming.specs.Run.{Running}
use Rattle.streaming.proofs.run.Given as goal

abbrev pub invariant-loop-d : goal.invariant-loop-d
invariant-loop-d l = Running l.plan.sheet.now l.initial.c l.initial.out l.initial.cells l.initial.regs l.initial.scr l.c l.out l.cells l.regs l.scr l.d × (length l.v ≡ length l.initial.v) × (length l.w ≡ length l.initial.w) × (length l.pitch ≡ length l.initial.pitch)

abbrev pub decreases-loop-d : goal.decreases-loop-d
decreases-loop-d l = length l.initial.out - l.d
