use mathlib.Core.Path.{◌≡◌}
use Prim.Native.Nat.{◌-◌, ◌*◌}
use lib.ListN.{length}
use Rattle.sheet.specs.Record.{count_of}
use Rattle.layout.specs.Needs.{scratch_from}
use Rattle.walk.specs.Walk.{Chaining, Mixing, left}
use Rattle.walk.proofs.+chain_mix_source.Given as goal

abbrev pub decreases-chain : goal.decreases-chain
decreases-chain l = 2 * (count_of l.plan.now.sheet.now - l.i) - 1

abbrev pub decreases-mix : goal.decreases-mix
decreases-mix l = 2 * (count_of l.plan.now.sheet.now - l.i) - 1

abbrev pub decreases-source : goal.decreases-source
decreases-source l = 2 * (count_of l.plan.now.sheet.now - l.i)

abbrev pub invariant-chain-loop-j : goal.invariant-chain-loop-j
invariant-chain-loop-j l = Chaining l.plan.sheet.now l.i l.c l.pitch l.initial.out l.initial.cells l.initial.regs l.initial.scr (length l.initial.v) (length l.initial.w) l.out l.cells l.regs l.scr (length l.v) (length l.w) l.j

abbrev pub decreases-chain-loop-j : goal.decreases-chain-loop-j
decreases-chain-loop-j l = left l.plan.sheet.now l.j

abbrev pub invariant-mix-loop-j : goal.invariant-mix-loop-j
invariant-mix-loop-j l = (l.at ≡ scratch_from l.plan.sheet.now l.i) × Mixing l.plan.sheet.now l.i l.c l.pitch l.initial.out l.initial.cells l.initial.regs l.initial.scr (length l.initial.v) (length l.initial.w) l.out l.cells l.regs l.scr (length l.v) (length l.w) l.j

abbrev pub decreases-mix-loop-j : goal.decreases-mix-loop-j
decreases-mix-loop-j l = left l.plan.sheet.now l.j
