use Rattle.std.proofs.Common.{◌≡◌, ℕ, ◌-◌, ◌*◌, ◌%◌, ◌^◌, ◌<◌, ◌∙◌, min, arith, le_of_lt}
use lib.Count.{count_leading_zeros}
use Rattle.ieee.proofs.Tests.{zero-32}
use Rattle.float.proofs.Remainder.{Doubled, doubled, few, nothing, scaled-is}
use Rattle.float.proofs.Units.value.Goals as goal

known : (q k d z : ℕ) → (q ≡ 0 → ⊥) → q < 2 ^ 24 → z ≡ count_leading_zeros 64 q → d ≡ min (z - 40) k → Doubled q k d
known q k d z n h e t = doubled q k d (omega (arith, n)) h (rw e at t)

pub returns-then-self-eq0 : goal.returns-then-self-eq0
returns-then-self-eq0 c = zero-32 ∙ nothing c.args.self.digits c.args.self.power c.if-self-eq0.true

pub overflow_sub-from : goal.overflow_sub-from
overflow_sub-from c = rw c.from.ensures (few c.args.self.digits (omega (arith, c.if-self-eq0.false)) c.args.self.short)

pub from_units-requires : goal.from_units-requires
from_units-requires c =
    let w = known _ _ _ _ c.if-self-eq0.false c.args.self.short c.from.ensures c.min-doublings.ensures in
    (w.kept, le_of_lt w.small, omega (arith, c.args.self.finite))

pub returns : goal.returns
returns c =
    let x = c.args.self in
    let d = c.min-doublings.result in
    let w = known x.digits x.power d _ c.if-self-eq0.false x.short c.from.ensures c.min-doublings.ensures in
    c.from_units.ensures ∙ scaled-is (x.digits * 2 ^ d % 2 ^ 64) (x.power - d) (x.digits * 2 ^ x.power) w.small (omega (arith, x.finite)) w.same
