-- `cast::f64_to_f32` meets its contract.
use Rattle.std.proofs.Common.{◌≡◌, ℕ, ◌+◌, ◌/◌, ◌^◌, ◌<◌, ◌≤◌, not, T, sym, ap, ◌∙◌, subst, lt_of_lt_of_le, arith, lit<}
use lib.Ieee.{binary64, fits, is_nan, lt, neg, to_bits}
use lib.Ieee.Fits.{neg-fits}
use lib.Ieee.Bits.{to_bits-lt}
use Rattle.ieee.proofs.Tests.{null, yes, no, zero-64}
use Rattle.ieee.proofs.Read.{above-neg}
use Rattle.cast.proofs.Narrow.{narrow-is-nearest, neg-narrow}
use Rattle.cast.proofs.Normal.{field}
use Rattle.cast.proofs.Far.{Far, sign_digit, to-zero, to-infinity, is-below, whole-field, field-neg}
use Rattle.cast.proofs.f64_to_f32.Goals as goal
use Rattle.cast.proofs.f64_to_f32.Goals.{Joined-else-field-gt896, Then-field-lt-HALF_OF_SMALLEST, Then-field-gt-LAST_FINITE, Then-x, Else-x}

held : (c : Joined-else-field-gt896) → T (fits binary64 c.args.x)
held c = subst T (sym c.well_formed.0.1) tt

number : (c : Joined-else-field-gt896) → T (not (is_nan c.args.x))
number c = no (sym c.is_nan.ensures.value ∙ c.if-not-is_nan.true)

pub overflow_cast-sign : goal.overflow_cast-sign
overflow_cast-sign c = record { fits = small (to_bits binary64 c.args.x) (to_bits-lt binary64 c.args.x (held c)) }
  where
    small : (b : ℕ) → b < 2 ^ 64 → b / 9223372036854775808 < 2 ^ 32
    small b h = omega arith

-- a zero by underflow, and zeros
tiny : (c : Then-field-lt-HALF_OF_SMALLEST) → Far c.args.x (sign_digit (to_bits binary64 c.args.x))
tiny c = to-zero c.args.x (held c.before) (number c.before) c.if-field-lt-HALF_OF_SMALLEST.true

pub float_from_bits-result : goal.float_from_bits-result
float_from_bits-result c = (tiny c).number

pub returns-then-field-lt-HALF_OF_SMALLEST : goal.returns-then-field-lt-HALF_OF_SMALLEST
returns-then-field-lt-HALF_OF_SMALLEST c = (tiny c).gives

-- an infinity
huge : (c : Then-field-gt-LAST_FINITE) → Far c.args.x (sign_digit (to_bits binary64 c.args.x) + 0x7f80_0000)
huge c = to-infinity c.args.x (held c.before.before) (number c.before.before) c.if-field-gt-LAST_FINITE.true

pub float_from_bits-result-then-field-gt-LAST_FINITE : goal.float_from_bits-result-then-field-gt-LAST_FINITE
float_from_bits-result-then-field-gt-LAST_FINITE c = (huge c).number

pub returns-then-field-gt-LAST_FINITE : goal.returns-then-field-gt-LAST_FINITE
returns-then-field-gt-LAST_FINITE c = (huge c).gives

-- between the two
next : (f : ℕ) → f ≤ 1150 → f < 1151
next f h = omega arith

wide : (f : ℕ) → 873 ≤ f → 862 < f
wide f h = omega arith

pub narrow_shifted-requires-clause-not_above : goal.narrow_shifted-requires-clause-not_above
narrow_shifted-requires-clause-not_above c =
    subst (λ (f : ℕ). f < 1151) (whole-field c.args.x (held c.before.before.before) (yes (rw zero-64 at c.if-x.true))) (next (field (to_bits binary64 c.args.x)) c.if-field-gt-LAST_FINITE.false)

below : (c : Else-x) → T (lt c.args.x null)
below c =
    is-below c.args.x (held c.before.before.before) (number c.before.before.before) (lt_of_lt_of_le (lit< tt) c.if-field-lt-HALF_OF_SMALLEST.false) (no (rw zero-64 at c.if-x.false))

same-field : (c : Else-x) → field (to_bits binary64 c.args.x) ≡ to_bits binary64 (neg c.args.x) / 2 ^ 52
same-field c = field-neg c.args.x (below c) ∙ whole-field (neg c.args.x) (neg-fits binary64 c.args.x (held c.before.before.before)) (above-neg c.args.x (below c))

pub narrow_shifted-requires-else-x-clause-above : goal.narrow_shifted-requires-else-x-clause-above
narrow_shifted-requires-else-x-clause-above c = above-neg c.args.x (below c)

pub narrow_shifted-requires-else-x-clause-not_below : goal.narrow_shifted-requires-else-x-clause-not_below
narrow_shifted-requires-else-x-clause-not_below c = subst (λ (f : ℕ). 862 < f) (same-field c) (wide (field (to_bits binary64 c.args.x)) c.if-field-lt-HALF_OF_SMALLEST.false)

pub narrow_shifted-requires-else-x-clause-not_above : goal.narrow_shifted-requires-else-x-clause-not_above
narrow_shifted-requires-else-x-clause-not_above c = subst (λ (f : ℕ). f < 1151) (same-field c) (next (field (to_bits binary64 c.args.x)) c.if-field-gt-LAST_FINITE.false)

pub returns-else-x : goal.returns-else-x
returns-else-x c = ap neg c.narrow_shifted-else-x.ensures ∙ neg-narrow c.args.x (below c.before)

-- a NaN
pub returns : goal.returns
returns c = c.nearest_f64_to_f32_with_nan.ensures ∙ narrow-is-nearest c.args.x
