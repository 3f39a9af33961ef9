use mathlib.Core.Path.{◌≡◌}
use Prim.Native.Nat.{◌+◌, ◌≤◌, ◌<◌}
use lib.ListN.{length}
use Rattle.sheet.specs.Tree.{records, spine}
use Rattle.layout.proofs.chain_length.Given as goal

abbrev pub invariant-loop-j : goal.invariant-loop-j
invariant-loop-j l = (l.j < l.count) × (l.n + length (spine (records l.sheet l.j)) ≡ length (spine (records l.sheet l.f))) × (length (spine (records l.sheet l.f)) ≤ 256)

abbrev pub decreases-loop-j : goal.decreases-loop-j
decreases-loop-j l = length (spine (records l.sheet l.j))
