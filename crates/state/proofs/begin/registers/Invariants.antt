use mathlib.Core.Path.{◌≡◌}
use mathlib.Core.List.{◌++◌}
use Prim.Native.Nat.{◌≤◌}
use lib.ListN.{length, drop}
use Rattle.layout.specs.Needs.{registers_from}
use Rattle.machine.specs.Build.{started_registers}
use Rattle.state.proofs.begin.registers.Given as goal

abbrev pub invariant-loop-i : goal.invariant-loop-i
invariant-loop-i l = (l.i ≤ l.plan.count) × (length l.regs ≡ length l.initial.regs) × (l.regs ≡ started_registers l.plan.sheet.now l.i ++ drop (registers_from l.plan.sheet.now l.i) l.initial.regs)
