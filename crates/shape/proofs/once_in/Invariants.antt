-- The table counts the links of the records below i, each of which passed.
use Rattle.std.specs.Prelude.{◌≡◌, true, length}
use Rattle.sheet.specs.Checks.{all}
use Rattle.sheet.specs.Links.{at, Counted, once_at}
use Rattle.shape.proofs.once_in.Given as goal

abbrev pub invariant-loop-i : goal.invariant-loop-i
invariant-loop-i l = (length l.hits ≡ length l.initial.hits) × Counted (at l.first) (at l.next) (length l.first) l.hits l.i × (all (once_at (at l.first) (at l.next) (length l.first)) l.i ≡ true)
