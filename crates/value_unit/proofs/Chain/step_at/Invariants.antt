-- The step that is looked for stays as many steps away from j as turns are left.
use Rattle.std.proofs.Common.{◌≡◌, ◌-◌, ◌<◌, length}
use Rattle.value_unit.specs.Laws.{steps_from, step_at}
use Rattle.value_unit.proofs.Chain.step_at.Given as goal

abbrev pub invariant-loop : goal.invariant-loop
invariant-loop l = (l.j < l.self.count) × (l.k - l.counter < length (steps_from l.self.sheet.now l.j)) × (step_at l.self.sheet.now l.j (l.k - l.counter) ≡ step_at l.self.sheet.now l.self.first l.k)
