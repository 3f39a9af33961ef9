-- What is left of the catch-up from here, with the turns left, is the whole.
use Rattle.std.proofs.Common.{◌≡◌, ◌-◌}
use Rattle.rand_value.proofs.Catch.{rest}
use Rattle.rand_value.proofs.Rand.advance.Given as goal

abbrev pub invariant-loop : goal.invariant-loop
invariant-loop l = rest (65 - l.counter) l.from l.to l.self ≡ rest 65 l.from l.to l.initial.self
