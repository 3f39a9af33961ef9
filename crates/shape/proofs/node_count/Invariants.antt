-- n counts the nodes below i.
use Rattle.std.specs.Prelude.{◌≡◌, ◌≤◌}
use Rattle.sheet.specs.Checks.{sum}
use Rattle.sheet.specs.Links.{at, nodes_at}
use Rattle.sheet.specs.Numbers.{numbers_of}
use Rattle.shape.proofs.node_count.Given as goal

abbrev pub invariant-loop-i : goal.invariant-loop-i
invariant-loop-i l = (l.n ≤ l.i) × (l.n ≡ sum (nodes_at (at (numbers_of l.kinds))) l.i)
