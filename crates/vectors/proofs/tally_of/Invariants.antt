-- Each case counts as many answers as the shape says.
use Rattle.std.proofs.Common.{◌≡◌, ◌*◌, ◌≤◌, max}
use Rattle.vectors.proofs.tally_of.Given as goal

abbrev pub invariant-loop : goal.invariant-loop
invariant-loop g l = (l.tally.answers ≡ l.counter * max l.shape.answers 1) × (l.tally.differ ≤ l.tally.answers)
