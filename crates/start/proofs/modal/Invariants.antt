use mathlib.Core.Path.{◌≡◌}
use mathlib.Core.List.{◌++◌}
use Prim.Native.Nat.{◌+◌, ◌*◌, ◌≤◌, ◌<◌}
use lib.ListN.{length, take}
use Rattle.sheet.specs.Tree.{records, spine}
use Rattle.start.specs.Cells.{chain_start}
use Rattle.start.proofs.modal.Given as goal

abbrev pub invariant-loop-j : goal.invariant-loop-j
invariant-loop-j l =
    (l.j < l.plan.count) × (length l.own ≡ length l.initial.own) × (l.at + 5 * length (spine (records l.plan.sheet.now l.j)) ≡ length l.own) × (length l.own ≤ 1280) × (take l.at l.own ++ chain_start l.plan.sheet.now l.j ≡ chain_start l.plan.sheet.now l.f)

abbrev pub decreases-loop-j : goal.decreases-loop-j
decreases-loop-j l = length (spine (records l.plan.sheet.now l.j))
