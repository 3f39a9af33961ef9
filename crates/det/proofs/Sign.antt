-- What `tanh` cites: its size and its sign tell what tanh of a double is.
use mathlib.Core.Path.{◌≡◌, refl, sym, ap, ◌∙◌, subst}
use mathlib.Core.Logic.{◌⊎◌, inl, inr}
use mathlib.Core.Bool.{Bool, true, false, not, cond, true≢false}
use Prim.Native.Nat.{ℕ, zero, suc, ◌+◌, ◌-◌, ◌*◌, ◌/◌, ◌%◌, ◌^◌, ◌≤◌, ◌<◌}
use native.Mathlib.Nat.{mod-lt, mul-pos, zero-lt-suc}
use native.Mathlib.Omega.{arith}
use lib.IntN.{ℤ, pos}
use lib.Dec.{T, ltb, leb, eqb, lit<, lt→ltb}
use lib.Arith.{le→nltb, lt→nleb}
use lib.Pow.{pow_pos}
use lib.Ieee.{Float, nan, inf, fin, binary64, up, down, lt, neg, add, mul, div, odd, fits, is_nan, of_int, of_fields, of_bits, to_bits, nan_bits}
use lib.Ieee.Fits.{up_pos}
use lib.Ieee.Bits.{of_bits-to_bits, of_bits-fits, to_bits-lt, nan_bits_is}
use Rattle.ieee.proofs.Tests.{null, no, is_true, is_false, zero-64}
use Rattle.ieee.proofs.Value.{zero_exp}
use Rattle.ieee.proofs.Whole.{either}
use Rattle.cast.proofs.Normal.{signed, neg-neg, neg-number}
use Rattle.double.specs.Double.{one, horner}
use Rattle.exp.specs.Exp.{expm1_small}
use Rattle.det.specs.Tanh.{tanh_above, tanh_of}

-- ---- a pattern below 2 ^ 63 has no sign
abbrev unsigned : Float → Bool
unsigned nan = true
unsigned (inf s) = not s
unsigned (fin s m e) = not s

odd-unsigned : (d q k l : ℕ) → T (unsigned (odd d false q k l))
unfolding odd
odd-unsigned d zero k l = tt
odd-unsigned d (suc q) k l = tt

fields-unsigned : (e t : ℕ) → T (unsigned (of_fields binary64 false e t))
unfolding of_fields
fields-unsigned zero t = odd-unsigned 53 t 0 1074
fields-unsigned (suc x) t = go (eqb (suc x) 2047) (eqb t 0)
  where
    go : (a b : Bool) → T (unsigned (cond a (cond b (inf false) nan) (odd 53 false (2 ^ 52 + t) x 1074)))
    go true true = tt
    go true false = tt
    go false b = odd-unsigned 53 (2 ^ 52 + t) x 1074

bits-unsigned : (b : ℕ) → b < 2 ^ 63 → T (unsigned (of_bits binary64 b))
unfolding of_bits
bits-unsigned b h = subst (λ (s : Bool). T (unsigned (of_fields binary64 s (b % 2 ^ 63 / 2 ^ 52) (b % 2 ^ 52)))) (sym (is_false (leb (2 ^ 63) b) (lt→nleb (2 ^ 63) b h))) (fields-unsigned (b % 2 ^ 63 / 2 ^ 52) (b % 2 ^ 52))

-- ---- tanh of u and of -u, for a u without sign
as-above : (u : Float) → is_nan u ≡ false → lt u null ≡ false → tanh_above u one ≡ tanh_of u
unfolding tanh_of
as-above u n l = rw (n, zero-64, l)

as-below : (u : Float) → is_nan (neg u) ≡ false → lt (neg u) null ≡ true → tanh_above u (neg one) ≡ tanh_of (neg u)
unfolding tanh_of
as-below u n l = rw (n, zero-64, l, neg-neg)

minus-zero : tanh_above null (neg one) ≡ tanh_above (fin true 0 (pos 0)) one
unfolding tanh_above expm1_small horner of_bits of_int neg add mul div lt
minus-zero = refl

both : (u : Float) → T (fits binary64 u) → T (unsigned u) → is_nan u ≡ false → (tanh_above u one ≡ tanh_of u) × (tanh_above u (neg one) ≡ tanh_of (neg u))
unfolding is_nan lt neg
both nan F s n = absurd (true≢false n)
both (inf true) F s n = absurd s
both (inf false) F s n = (as-above (inf false) refl refl, as-below (inf false) refl refl)
both (fin true m e) F s n = absurd s
both (fin false zero e) F s n =
    subst (λ (e : ℤ). (tanh_above (fin false 0 e) one ≡ tanh_of (fin false 0 e)) × (tanh_above (fin false 0 e) (neg one) ≡ tanh_of (neg (fin false 0 e)))) (sym (zero_exp binary64 false e F))
    (as-above null refl refl, minus-zero ∙ as-above (fin true 0 (pos 0)) refl refl)
both (fin false (suc m) e) F s n = (
  as-above (fin false (suc m) e) refl (is_false (ltb (suc m * up e * 1) (0 * 1 * down e)) (le→nltb (suc m * up e * 1) (0 * 1 * down e) (none (suc m * up e * 1) (down e)))),
  as-below (fin false (suc m) e) refl (is_true (ltb 0 (suc m * up e * 1 + 0 * 1 * down e)) (lt→ltb 0 (suc m * up e * 1 + 0 * 1 * down e) (some (suc m * up e) (down e) (mul-pos (zero-lt-suc m) (up_pos e))))),
)
  where
    none : (n d : ℕ) → 0 * 1 * d ≤ n
    none n d = omega arith

    some : (n d : ℕ) → 0 < n → 0 < n * 1 + 0 * 1 * d
    some n d h = omega arith

-- ---- x's size and its sign from its pattern
pub record Parted (x : Float) (size sign : ℕ) : Type 0 where
  pub size_number : T (not (nan_bits binary64 size))
  pub number : T (not (is_nan (of_bits binary64 size)))
  pub sign_fits : 1023 * 2 ^ 52 + sign < 2 ^ 64
  pub sign_number : T (not (nan_bits binary64 (1023 * 2 ^ 52 + sign)))
  pub gives : tanh_above (of_bits binary64 size) (of_bits binary64 (1023 * 2 ^ 52 + sign)) ≡ tanh_of x

plus : of_bits binary64 (1023 * 2 ^ 52 + 0) ≡ one
unfolding of_bits
plus = refl

minus : of_bits binary64 (1023 * 2 ^ 52 + 2 ^ 63) ≡ neg one
unfolding of_bits neg
minus = refl

module _ (x : Float) (b : ℕ) (low : b < 2 ^ 63) where
  abbrev u : Float
  u = of_bits binary64 b

  number_of : is_nan u ≡ false → T (not (is_nan u))
  number_of n = subst (λ (t : Bool). T (not t)) (sym n) tt

  pattern-of : is_nan u ≡ false → T (not (nan_bits binary64 b))
  pattern-of n = subst (λ (t : Bool). T (not t)) (sym (nan_bits_is binary64 b ∙ n)) tt

  same : (n : is_nan u ≡ false) → (tanh_above u one ≡ tanh_of u) × (tanh_above u (neg one) ≡ tanh_of (neg u))
  same n = both u (of_bits-fits binary64 b) (bits-unsigned b low) n

  without : u ≡ x → is_nan x ≡ false → Parted x b 0
  unfolding nan_bits
  without e n =
      let n' : is_nan u ≡ false = ap is_nan e ∙ n in
      record { size_number = pattern-of n'; number = number_of n'; sign_fits = lit< tt; sign_number = tt; gives = ap (tanh_above u) plus ∙ (same n').0 ∙ ap tanh_of e }

  with-sign : neg u ≡ x → is_nan x ≡ false → Parted x b (2 ^ 63)
  unfolding nan_bits
  with-sign e n =
      let n' : is_nan u ≡ false = is_false (is_nan u) (subst (λ (v : Float). T (not (is_nan v))) (neg-neg u) (neg-number (neg u) (no (ap is_nan e ∙ n)))) in
      record { size_number = pattern-of n'; number = number_of n'; sign_fits = lit< tt; sign_number = tt; gives = ap (tanh_above u) minus ∙ (same n').1 ∙ ap tanh_of e }

module _ (x : Float) (F : T (fits binary64 x)) (n : is_nan x ≡ false) where
  abbrev b : ℕ
  b = to_bits binary64 x

  low : b % 2 ^ 63 < 2 ^ 63
  low = mod-lt b (pow_pos 63)

  go : (b < 2 ^ 63) ⊎ (2 ^ 63 ≤ b) → Parted x (b % 2 ^ 63) (b - b % 2 ^ 63)
  go (inl h) = subst (Parted x (b % 2 ^ 63)) (rest b h) (without x (b % 2 ^ 63) low (ap (of_bits binary64) (all b h) ∙ of_bits-to_bits binary64 x F) n)
    where
      all : (b : ℕ) → b < 2 ^ 63 → b % 2 ^ 63 ≡ b
      all b h = omega arith

      rest : (b : ℕ) → b < 2 ^ 63 → 0 ≡ b - b % 2 ^ 63
      rest b h = omega arith
  go (inr h) = subst (Parted x (b % 2 ^ 63)) (rest b top h) (with-sign x (b % 2 ^ 63) low (sym (signed (b % 2 ^ 63) low) ∙ ap (of_bits binary64) (all b top h) ∙ of_bits-to_bits binary64 x F) n)
    where
      top : b < 2 ^ 64
      top = to_bits-lt binary64 x F

      all : (b : ℕ) → b < 2 ^ 64 → 2 ^ 63 ≤ b → 2 ^ 63 + b % 2 ^ 63 ≡ b
      all b h g = omega arith

      rest : (b : ℕ) → b < 2 ^ 64 → 2 ^ 63 ≤ b → 2 ^ 63 ≡ b - b % 2 ^ 63
      rest b h g = omega arith

  pub parted : Parted x (b % 2 ^ 63) (b - b % 2 ^ 63)
  parted = go (either (2 ^ 63) b)
