-- `cast::narrow_shifted` meets its contract.
use Rattle.std.proofs.Common.{ℕ, ◌+◌, ◌-◌, ◌/◌, ◌%◌, ◌^◌, ◌<◌, ◌≤◌, false, T, sym, ap, ◌∙◌, subst, mod-lt, arith, lit≤, pow_pos}
use lib.Ieee.{binary32, binary64, to_bits, units}
use Rattle.ieee.proofs.Build.{Kept}
use Rattle.ieee.proofs.Read.{Seen, seen}
use Rattle.cast.proofs.Narrow.{Rounds, middle, large}
use Rattle.cast.proofs.narrow_shifted.Goals as goal
use Rattle.cast.proofs.narrow_shifted.Goals.{Start, Then-field-lt897, Else-field-lt897}

abbrev b : Start → ℕ
b c = to_bits binary64 c.args.x

view : (c : Start) → Seen binary64 c.args.x (b c / 2 ^ 52) (b c % 2 ^ 52)
view c = (seen binary64 c.args.x (subst T (sym c.well_formed.0.1) tt) c.requires.above).1

rest : (c : Start) → b c % 2 ^ 52 < 2 ^ 52
rest c = mod-lt (b c) (pow_pos 52)

-- below 2 ^ -126
low : (c : Then-field-lt897) → Rounds c.args.x (2 ^ 52 + b c.before % 2 ^ 52) (926 - b c.before / 2 ^ 52) 0
low c = middle c.args.x (b c.before / 2 ^ 52) (b c.before % 2 ^ 52) (rest c.before) c.requires.not_below c.if-field-lt897.true (view c.before)

high : (c : Else-field-lt897) → Rounds c.args.x (2 ^ 52 + b c.before % 2 ^ 52) 29 (b c.before / 2 ^ 52 - 897)
high c = large c.args.x (b c.before / 2 ^ 52) (b c.before % 2 ^ 52) (rest c.before) c.if-field-lt897.false (last (b c.before / 2 ^ 52) c.requires.not_above) (view c.before)
  where
    last : (f : ℕ) → f < 1151 → f ≤ 1150
    last f h = omega arith

pub from_units-requires : goal.from_units-requires
from_units-requires c = subst (λ (q : ℕ). Kept binary32 0 q × (q ≤ 2 ^ 24) × (0 ≤ 253)) (sym c.closest_shift.ensures) ((low c.before).kept, (low c.before).small, lit≤ tt)

pub returns-then-field-lt897 : goal.returns-then-field-lt897
returns-then-field-lt897 c = c.from_units.ensures ∙ ap (λ (q : ℕ). units binary32 false q 0) c.closest_shift.ensures ∙ (low c.before.before).gives

pub returns-else-field-lt897 : goal.returns-else-field-lt897
returns-else-field-lt897 c =
    c.from_units-else-field-lt897.ensures ∙ ap (λ (q : ℕ). units binary32 false q (b c.before.before.before / 2 ^ 52 - 897)) c.closest_shift-else-field-lt897.ensures ∙ (high c.before.before).gives
