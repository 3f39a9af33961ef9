use Rattle.std.specs.Prelude.{◌≡◌, ◌≤◌, length, get_or}
use Rattle.paths.specs.Paths.{Placing}
use Rattle.paths.proofs.places.Given as goal

abbrev pub invariant-loop-i : goal.invariant-loop-i
invariant-loop-i l = (l.links.count ≤ length l.to) × (l.i ≡ 0 → get_or l.to 0 0 ≡ 0) × Placing l.links.sheet.now l.links.count l.i l.to
