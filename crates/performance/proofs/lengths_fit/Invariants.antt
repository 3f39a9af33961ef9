-- The lengths below k and what is left make n.
use Rattle.std.specs.Prelude.{◌≡◌, ◌+◌}
use Rattle.sheet.specs.Checks.{sum}
use Rattle.performance.specs.List.{length_at}
use Rattle.performance.proofs.lengths_fit.Given as goal

abbrev pub invariant-loop-k : goal.invariant-loop-k
invariant-loop-k l = sum (length_at l.calls) l.k + l.left ≡ l.n
