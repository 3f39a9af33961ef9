-- Small things that the proofs share: the constants by their quotients, the order that two tests leave, a difference of two numbers, a signed integer out of a cast as a caller reads it.
use mathlib.Core.Path.{◌≡◌, refl, sym, ◌∙◌, subst}
use mathlib.Core.Bool.{true, false, true≢false}
use Prim.Native.Nat.{ℕ, suc, ◌+◌, ◌-◌, ◌*◌, ◌≤◌, ◌<◌}
use native.Mathlib.Nat.{mul-pos}
use native.Mathlib.Omega.{arith}
use lib.IntN.{ℤ, pos, negsuc, sub_ℕ}
use lib.Dec.{T, ltb, lt→ltb, ltb→lt, nltb→le}
use lib.Arith.{le→nltb}
use lib.Ieee.{Float, nan, inf, fin, binary64, up, down, div, neg, lt, le, is_nan, of_bits, to_signed}
use lib.Ieee.Casts.{to_signed_in}
use lib.Ieee.Fits.{up_pos, down_pos}
use lib.Ieee.Order.{le_of_values}
use lib.Ieee.Positive.{positive, above}
use mir.Syntax.{w64}
use mir.Val.{SFits, of_z, to_z}
use mir.ValLaws.{to_z-of_z}
use Rattle.ieee.proofs.Tests.{no, cond_yes, cond_no}

pub one-by-zero : div binary64 (of_bits binary64 0x3ff0_0000_0000_0000) (of_bits binary64 0) ≡ inf false
unfolding div of_bits
one-by-zero = refl

pub minus-one-by-zero : div binary64 (neg (of_bits binary64 0x3ff0_0000_0000_0000)) (of_bits binary64 0) ≡ inf true
unfolding div neg of_bits
minus-one-by-zero = refl

-- what is not below a positive l, and what is above 0 and not above h
pub le-of-not-below : (l x : Float) → T (positive l) → is_nan x ≡ false → lt x l ≡ false → T (le l x)
unfolding is_nan lt le
le-of-not-below nan x p n h = absurd p
le-of-not-below (inf s) x p n h = absurd p
le-of-not-below (fin true l d) x p n h = absurd p
le-of-not-below (fin false l d) nan p n h = absurd (true≢false n)
le-of-not-below (fin false l d) (inf true) p n h = absurd (true≢false h)
le-of-not-below (fin false l d) (inf false) p n h = tt
le-of-not-below (fin false l d) (fin true m e) p n h =
    absurd (go (m * up e * down d) (l * up d * down e) (mul-pos (mul-pos (ltb→lt 0 l p) (up_pos d)) (down_pos e)) (nltb→le 0 (m * up e * down d + l * up d * down e) (no h)))
  where
    go : (a b : ℕ) → 0 < b → a + b ≤ 0 → ⊥
    go a b h g = omega arith
le-of-not-below (fin false l d) (fin false m e) p n h = le_of_values (fin false l d) (fin false m e) (l * up d) (down d) (m * up e) (down e) (down_pos d) (down_pos e) (refl, refl) (refl, refl) (nltb→le (m * up e * down d) (l * up d * down e) (no h))

pub le-of-not-above : (x h : Float) → T (above x) → T (positive h) → lt h x ≡ false → T (le x h)
unfolding lt le
le-of-not-above nan h a p l = absurd a
le-of-not-above (inf true) h a p l = absurd a
le-of-not-above (inf false) nan a p l = absurd p
le-of-not-above (inf false) (inf s) a p l = absurd p
le-of-not-above (inf false) (fin s n d) a p l = absurd (true≢false l)
le-of-not-above (fin true m e) h a p l = absurd a
le-of-not-above (fin false m e) nan a p l = absurd p
le-of-not-above (fin false m e) (inf s) a p l = absurd p
le-of-not-above (fin false m e) (fin true n d) a p l = absurd p
le-of-not-above (fin false m e) (fin false n d) a p l = le_of_values (fin false m e) (fin false n d) (m * up e) (down e) (n * up d) (down d) (down_pos e) (down_pos d) (refl, refl) (refl, refl) (nltb→le (n * up d * down e) (m * up e * down d) (no l))

pub subℕ-ge : (a b : ℕ) → b ≤ a → sub_ℕ a b ≡ pos (a - b)
subℕ-ge a b h = cond_no (ltb a b) (negsuc (b - suc a)) (pos (a - b)) (le→nltb a b h)

pub subℕ-lt : (a b : ℕ) → a < b → sub_ℕ a b ≡ negsuc (b - suc a)
subℕ-lt a b h = cond_yes (ltb a b) (negsuc (b - suc a)) (pos (a - b)) (lt→ltb a b h)

pub cast-read : (z : ℤ) (x : Float) → z ≡ to_signed 63 x → to_z w64 (of_z w64 z) ≡ to_signed 63 x
cast-read z x e = to_z-of_z w64 z (subst (SFits w64) (sym e) (record { sfits = to_signed_in 63 x })) ∙ e
