-- What the proof of `f64_to_f32` cites beside `Normal`: where the exponent's field alone says that the nearest f32 is a zero or an infinity,
-- whose bit pattern is a constant and the digit of x's sign; and which x is left between the two.
use Rattle.std.proofs.Common.{◌≡◌, ℕ, ◌+◌, ◌*◌, ◌/◌, ◌%◌, ◌^◌, ◌<◌, Bool, true, false, cond, not, T, ◌⊎◌, pos, sym, refl, ap, ◌∙◌, subst, inl, inr, lt_of_lt_of_le, le_of_lt, lt_irrefl, mod-lt, arith, lit<, pow_pos, T_not}
use lib.Ieee.{Float, nan, inf, fin, binary32, binary64, neg, lt, fits, is_nan, nan_bits, of_bits, to_bits}
use lib.Ieee.Fits.{neg-fits}
use Rattle.ieee.proofs.Tests.{null, yes, no}
use Rattle.ieee.proofs.Read.{Seen, seen, level, above-neg}
use Rattle.cast.specs.Narrow.{narrow_of}
use Rattle.cast.proofs.Narrow.{tiny, too_large, zero-stays, neg-narrow}
use Rattle.cast.proofs.Normal.{bits-neg, field, zero_field}

-- ---- a number's sign
-- what the code has of a pattern b
abbrev pub sign_digit : ℕ → ℕ
sign_digit b = b / 2 ^ 63 * 2 ^ 31 % 2 ^ 32

abbrev digit_of : Bool → ℕ
digit_of s = cond s (2 ^ 31) 0

-- the pattern p is no NaN's, and gives the nearest f32 of x
pub record Far (x : Float) (p : ℕ) : Type 0 where
  pub number : T (not (nan_bits binary32 p))
  pub gives : of_bits binary32 p ≡ narrow_of x

zero : (x : Float) (s : Bool) → sign_digit (to_bits binary64 x) ≡ digit_of s → fin s 0 (pos 0) ≡ narrow_of x → Far x (sign_digit (to_bits binary64 x))
unfolding nan_bits of_bits
zero x s d e = subst (λ (p : ℕ). Far x p) (sym d) (record { number = number s; gives = gives s ∙ e })
  where
    number : (s : Bool) → T (not (nan_bits binary32 (digit_of s)))
    number true = tt
    number false = tt

    gives : (s : Bool) → of_bits binary32 (digit_of s) ≡ fin s 0 (pos 0)
    gives true = refl
    gives false = refl

-- 0x7f80_0000 is the pattern of the infinity above zero
infinity : (x : Float) (s : Bool) → sign_digit (to_bits binary64 x) ≡ digit_of s → inf s ≡ narrow_of x → Far x (sign_digit (to_bits binary64 x) + 0x7f80_0000)
unfolding nan_bits of_bits
infinity x s d e = subst (λ (p : ℕ). Far x (p + 0x7f80_0000)) (sym d) (record { number = number s; gives = gives s ∙ e })
  where
    number : (s : Bool) → T (not (nan_bits binary32 (digit_of s + 0x7f80_0000)))
    number true = tt
    number false = tt

    gives : (s : Bool) → of_bits binary32 (digit_of s + 0x7f80_0000) ≡ inf s
    gives true = refl
    gives false = refl

clear : (b : ℕ) → b < 9223372036854775808 → b / 9223372036854775808 * 2147483648 % 4294967296 ≡ 0
clear b h = omega arith

set : (c : ℕ) → c < 9223372036854775808 → (9223372036854775808 + c) / 9223372036854775808 * 2147483648 % 4294967296 ≡ 2147483648
set c h = omega arith

neg-zero : fin true 0 (pos 0) ≡ neg null
unfolding neg
neg-zero = refl

neg-infinity : inf true ≡ neg (inf false)
unfolding neg
neg-infinity = refl

-- ---- x above zero
pub whole-field : (x : Float) → T (fits binary64 x) → T (lt null x) → field (to_bits binary64 x) ≡ to_bits binary64 x / 2 ^ 52
whole-field x F P = whole (to_bits binary64 x) (seen binary64 x F P).0
  where
    whole : (b : ℕ) → b < 9223372036854775808 → b / 4503599627370496 % 2048 ≡ b / 4503599627370496
    whole b h = omega arith

above : (x : Float) → T (fits binary64 x) → T (lt null x) → (to_bits binary64 x < 2 ^ 63) × Seen binary64 x (field (to_bits binary64 x)) (to_bits binary64 x % 2 ^ 52)
above x F P =
    let s = seen binary64 x F P in (s.0, subst (λ (e : ℕ). Seen binary64 x e (to_bits binary64 x % 2 ^ 52)) (sym (whole-field x F P)) s.1)

-- ---- x below zero
pub field-neg : (x : Float) → T (lt x null) → field (to_bits binary64 x) ≡ field (to_bits binary64 (neg x))
field-neg x N = ap field (bits-neg x N) ∙ same (to_bits binary64 (neg x))
  where
    same : (c : ℕ) → (9223372036854775808 + c) / 4503599627370496 % 2048 ≡ c / 4503599627370496 % 2048
    same c = omega arith

below : (x : Float) → T (fits binary64 x) → T (lt x null) → (sign_digit (to_bits binary64 x) ≡ digit_of true) × Seen binary64 (neg x) (field (to_bits binary64 x)) (to_bits binary64 (neg x) % 2 ^ 52)
below x F N =
    let y = neg x in
    let s = above y (neg-fits binary64 x F) (above-neg x N) in
    (ap sign_digit (bits-neg x N) ∙ set (to_bits binary64 y) s.0, subst (λ (e : ℕ). Seen binary64 y e (to_bits binary64 y % 2 ^ 52)) (sym (field-neg x N)) s.1)

rest : (x : Float) → to_bits binary64 x % 2 ^ 52 < 2 ^ 52
rest x = mod-lt (to_bits binary64 x) (pow_pos 52)

-- ---- every x but a NaN
abbrev Signs : Float → Type 0
Signs x = T (lt null x) ⊎ (T (lt x null) ⊎ ((s : Bool) × (x ≡ fin s 0 (pos 0))))

signs : (x : Float) → T (fits binary64 x) → T (not (is_nan x)) → Signs x
signs x F n = go (lt null x) (lt x null) refl refl
  where
    number : ((s : Bool) × (x ≡ fin s 0 (pos 0))) ⊎ (x ≡ nan) → (s : Bool) × (x ≡ fin s 0 (pos 0))
    number (inl z) = z
    number (inr z) = unfold is_nan in absurd (subst (λ (v : Float). T (not (is_nan v))) z n)

    go : (c d : Bool) → lt null x ≡ c → lt x null ≡ d → Signs x
    go true d p q = inl (yes p)
    go false true p q = inr (inl (yes q))
    go false false p q = inr (inr (number (level binary64 x F (no p) (no q))))

zero_digit : (s : Bool) → sign_digit (to_bits binary64 (fin s 0 (pos 0))) ≡ digit_of s
unfolding to_bits
zero_digit true = refl
zero_digit false = refl

no-zero : (x : Float) (s : Bool) → 0 < field (to_bits binary64 x) → x ≡ fin s 0 (pos 0) → ⊥
no-zero x s h z = lt_irrefl 0 (subst (λ (e : ℕ). 0 < e) (ap (λ (v : Float). field (to_bits binary64 v)) z ∙ zero_field s) h)

-- below half of the smallest f32
pub to-zero : (x : Float) → T (fits binary64 x) → T (not (is_nan x)) → field (to_bits binary64 x) < 873 → Far x (sign_digit (to_bits binary64 x))
to-zero x F n h = go (signs x F n)
  where
    go : Signs x → Far x (sign_digit (to_bits binary64 x))
    go (inl P) =
        let s = above x F P in
        zero x false (clear (to_bits binary64 x) s.0) (tiny x (field (to_bits binary64 x)) (to_bits binary64 x % 2 ^ 52) (rest x) h s.1)
    go (inr (inl N)) =
        let s = below x F N in
        zero x true s.0 (neg-zero ∙ ap neg (tiny (neg x) (field (to_bits binary64 x)) (to_bits binary64 (neg x) % 2 ^ 52) (rest (neg x)) h s.1) ∙ neg-narrow x N)
    go (inr (inr z)) = zero x z.0 (ap (λ (v : Float). sign_digit (to_bits binary64 v)) z.1 ∙ zero_digit z.0) ((zero-stays z.0).1 ∙ ap narrow_of (sym z.1))

-- from 2 ^ 128 up
pub to-infinity : (x : Float) → T (fits binary64 x) → T (not (is_nan x)) → 1150 < field (to_bits binary64 x) → Far x (sign_digit (to_bits binary64 x) + 0x7f80_0000)
to-infinity x F n h = go (signs x F n)
  where
    go : Signs x → Far x (sign_digit (to_bits binary64 x) + 0x7f80_0000)
    go (inl P) =
        let s = above x F P in
        infinity x false (clear (to_bits binary64 x) s.0) (too_large x (field (to_bits binary64 x)) (to_bits binary64 x % 2 ^ 52) (rest x) h s.1)
    go (inr (inl N)) =
        let s = below x F N in
        infinity x true s.0 (neg-infinity ∙ ap neg (too_large (neg x) (field (to_bits binary64 x)) (to_bits binary64 (neg x) % 2 ^ 52) (rest (neg x)) h s.1) ∙ neg-narrow x N)
    go (inr (inr z)) = absurd (no-zero x z.0 (lt_of_lt_of_le (lit< tt) (le_of_lt h)) z.1)

-- between the two, x is no zero: it is below zero where it is not above
pub is-below : (x : Float) → T (fits binary64 x) → T (not (is_nan x)) → 0 < field (to_bits binary64 x) → T (not (lt null x)) → T (lt x null)
is-below x F n h a = go (signs x F n)
  where
    go : Signs x → T (lt x null)
    go (inl P) = absurd (T_not (lt null x) a P)
    go (inr (inl N)) = N
    go (inr (inr z)) = absurd (no-zero x z.0 h z.1)
