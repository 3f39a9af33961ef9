use Rattle.std.specs.Prelude.{◌≡◌, true, ℕ, ◌<◌}
use Rattle.unit.specs.State.{record_ok}
use Rattle.rings.proofs.rings_ok.Given as goal

abbrev pub invariant-loop-i : goal.invariant-loop-i
invariant-loop-i l = (j : ℕ) → j < l.i → record_ok l.plan.sheet.now (l.cells, l.regs) j ≡ true
