-- The exponent and the mantissa of a normal double from its bit pattern: what the proofs of `ln`'s parts cite.
use mathlib.Core.Path.{◌≡◌, refl, sym, ap, ◌∙◌, subst}
use mathlib.Core.Logic.{◌⊎◌, inl, inr}
use mathlib.Core.Bool.{Bool, true, false, not, ◌&&◌, true≢false}
use Prim.Native.Nat.{ℕ, zero, suc, ◌+◌, ◌-◌, ◌*◌, ◌/◌, ◌%◌, ◌^◌, ◌≤◌, ◌<◌}
use native.Mathlib.Nat.{le_trans, le_of_eq, le_of_lt, lt_of_lt_of_le, lt_of_le_of_lt, lt_irrefl, mul-one, one-mul, mul_comm, mul_assoc, mul_right_comm, mul-pos, mul-le-mul_right, mul-le-mul_left, mod-lt, eq_of_mul-eq-mul_right}
use native.Mathlib.Omega.{arith}
use lib.IntN.{ℤ, pos, negsuc, neg_ℤ, sub_ℕ, ◌+ℤ◌}
use lib.Dec.{T, ltb, leb, eqb, lit≤, lit<, lt→ltb, ltb→lt, nltb→le, le→leb}
use lib.Pow.{pow-add, pow_pos, pow_mono, shl_lt}
use lib.Signed.{lt_z}
use lib.Ieee.{Float, nan, inf, fin, binary64, up, down, size, units, round, lt, le, eq, mul, fits, is_nan, of_bits, to_bits, nan_bits}
use lib.Ieee.Digits.{size-lt, size_reaches}
use lib.Ieee.Fits.{and_i, eq→eqb, up_pos}
use lib.Ieee.Bits.{of_bits-fits}
use lib.Ieee.Exact.{HasValue, units_val}
use lib.Ieee.Order.{round_mono}
use lib.Ieee.Positive.{num, den, positive, above, above_of_le, values_of_le, positive_of_value, first_pos, den_pos, own_value, mul_at}
use mir.Syntax.{w32}
use mir.Val.{SFits}
use Rattle.ieee.proofs.Tests.{null, yes, no, zero-64}
use Rattle.ieee.proofs.Build.{size_is, build, no-nan-bits}
use Rattle.ieee.proofs.Read.{Seen, seen, level, above_no_nan}
use Rattle.ieee.proofs.Value.{same-value, fits-odd, fits_lt, revalue, den-power}
use Rattle.double.proofs.Tests.{subℕ-ge, subℕ-lt, le-of-not-below}
use Rattle.det.specs.Log.{exponent_of, mantissa_of, min_positive, subnormal_scale}

-- ---- m * 2 ^ A = N * 2 ^ B, where m has s + 1 digits and N has 53
module _ (m s N A B : ℕ) (lo : 2 ^ s ≤ m) (hi : m < 2 ^ suc s) (least : 2 ^ 52 ≤ N) (most : N < 2 ^ 53) (e : m * 2 ^ A ≡ N * 2 ^ B) where
  digits : (a y k : ℕ) → 2 ^ y ≤ a → a < 2 ^ suc y → size (a * 2 ^ k) ≡ suc (y + k)
  digits a y k l h = size_is (a * 2 ^ k) (y + k) (le_trans (le_of_eq (pow-add 2 y k)) (mul-le-mul_right (2 ^ k) l)) (subst (λ (z : ℕ). a * 2 ^ k < 2 ^ z) (go y k) (shl_lt (suc y) k h))
    where
      go : (y k : ℕ) → suc y + k ≡ suc (y + k)
      go y k = omega arith

  same_place : s + A ≡ 52 + B
  same_place = go (s + A) (52 + B) (sym (digits m s A lo hi) ∙ ap size e ∙ digits N 52 B least most)
    where
      go : (a b : ℕ) → suc a ≡ suc b → a ≡ b
      go a b h = omega arith

  same_digits : m * 2 ^ 52 ≡ N * 2 ^ s
  same_digits =
      eq_of_mul-eq-mul_right (2 ^ B) (pow_pos B) (m * 2 ^ 52) (N * 2 ^ s)
      (mul_assoc m (2 ^ 52) (2 ^ B)
      ∙ ap (λ (z : ℕ). m * z) (sym (pow-add 2 52 B) ∙ ap (λ (z : ℕ). 2 ^ z) (sym same_place) ∙ pow-add 2 s A ∙ mul_comm (2 ^ s) (2 ^ A))
      ∙ sym (mul_assoc m (2 ^ A) (2 ^ s))
      ∙ ap (λ (z : ℕ). z * 2 ^ s) e
      ∙ mul_right_comm N (2 ^ B) (2 ^ s))

-- ---- differences
subℕ-same : (a b c d : ℕ) → a + d ≡ c + b → sub_ℕ a b ≡ sub_ℕ c d
subℕ-same a b c d e = go (ltb a b) (ltb→lt a b) (nltb→le a b)
  where
    less : (a b c d : ℕ) → a + d ≡ c + b → a < b → c < d
    less a b c d e h = omega arith

    less_by : (a b c d : ℕ) → a + d ≡ c + b → a < b → b - suc a ≡ d - suc c
    less_by a b c d e h = omega arith

    more : (a b c d : ℕ) → a + d ≡ c + b → b ≤ a → d ≤ c
    more a b c d e h = omega arith

    more_by : (a b c d : ℕ) → a + d ≡ c + b → b ≤ a → a - b ≡ c - d
    more_by a b c d e h = omega arith

    go : (t : Bool) → (T t → a < b) → (T (not t) → b ≤ a) → sub_ℕ a b ≡ sub_ℕ c d
    go true y n = subℕ-lt a b (y tt) ∙ ap negsuc (less_by a b c d e (y tt)) ∙ sym (subℕ-lt c d (less a b c d e (y tt)))
    go false y n = subℕ-ge a b (n tt) ∙ ap pos (more_by a b c d e (n tt)) ∙ sym (subℕ-ge c d (more a b c d e (n tt)))

up_neg : (s : ℕ) → up (neg_ℤ (pos s)) ≡ 1
up_neg zero = refl
up_neg (suc s) = refl

down-neg : (s : ℕ) → down (neg_ℤ (pos s)) ≡ 2 ^ s
down-neg zero = refl
down-neg (suc s) = refl

-- ---- a finite x = m * 2 ^ e, which is N * 2 ^ j units
module _ (m : ℕ) (e : ℤ) (F : T (fits binary64 (fin false (suc m) e))) (t j : ℕ) (few : t < 2 ^ 52) (v : HasValue (fin false (suc m) e) false ((2 ^ 52 + t) * 2 ^ j) (2 ^ 1074)) where
  abbrev s : ℕ
  s = size (suc m) - 1

  some : 1 ≤ size (suc m)
  some = go (size (suc m)) (size-lt (suc m))
    where
      none : (m : ℕ) → suc m < 1 → ⊥
      none m h = omega arith

      go : (k : ℕ) → suc m < 2 ^ k → 1 ≤ k
      go zero h = absurd (none m h)
      go (suc k) h = go' k
        where
          go' : (k : ℕ) → 1 ≤ suc k
          go' k = omega arith

  is-size : size (suc m) ≡ suc s
  is-size = go (size (suc m)) some
    where
      go : (k : ℕ) → 1 ≤ k → k ≡ suc (k - 1)
      go k h = omega arith

  lo : 2 ^ s ≤ suc m
  lo = size_reaches (suc m) s (le_of_eq (sym is-size))

  hi : suc m < 2 ^ suc s
  hi = subst (λ (z : ℕ). suc m < 2 ^ z) is-size (size-lt (suc m))

  at_least : 2 ^ 52 ≤ 2 ^ 52 + t
  at_least = omega arith

  at_most : 2 ^ 52 + t < 2 ^ 53
  at_most = go t few
    where
      go : (t : ℕ) → t < 2 ^ 52 → 2 ^ 52 + t < 2 ^ 53
      go t h = omega arith

  small_size : s ≤ 52
  small_size = go (size (suc m)) (lib.Ieee.Digits.size-le (suc m) 53 (fits_lt binary64 false (suc m) e F))
    where
      go : (k : ℕ) → k ≤ 53 → k - 1 ≤ 52
      go k h = omega arith

  -- the equation of `v` as one of powers
  equation : (A : ℕ) × (B : ℕ) × (suc m * 2 ^ A ≡ (2 ^ 52 + t) * 2 ^ B) × (s + A ≡ 52 + B → e +ℤ pos s ≡ sub_ℕ (suc j) 1023)
  equation = go e v
    where
      go : (e : ℤ) → HasValue (fin false (suc m) e) false ((2 ^ 52 + t) * 2 ^ j) (2 ^ 1074) → (A : ℕ) × (B : ℕ) × (suc m * 2 ^ A ≡ (2 ^ 52 + t) * 2 ^ B) × (s + A ≡ 52 + B → e +ℤ pos s ≡ sub_ℕ (suc j) 1023)
      go (pos n) v = (
        n + 1074,
        j,
        ap (λ (z : ℕ). suc m * z) (pow-add 2 n 1074) ∙ sym (mul_assoc (suc m) (2 ^ n) (2 ^ 1074)) ∙ v.1 ∙ mul-one ((2 ^ 52 + t) * 2 ^ j),
        λ h. sym (subℕ-ge (suc j) 1023 (least s n j h) ∙ ap pos (by s n j h)),
      )
        where
          least : (s n j : ℕ) → s + (n + 1074) ≡ 52 + j → 1023 ≤ suc j
          least s n j h = omega arith

          by : (s n j : ℕ) → s + (n + 1074) ≡ 52 + j → suc j - 1023 ≡ n + s
          by s n j h = omega arith
      go (negsuc n) v = (
        1074,
        j + suc n,
        ap (λ (z : ℕ). z * 2 ^ 1074) (sym (mul-one (suc m))) ∙ v.1 ∙ mul_assoc (2 ^ 52 + t) (2 ^ j) (2 ^ suc n) ∙ ap (λ (z : ℕ). (2 ^ 52 + t) * z) (sym (pow-add 2 j (suc n))),
        λ h. subℕ-same s (suc n) (suc j) 1023 (by s n j h),
      )
        where
          by : (s n j : ℕ) → s + 1074 ≡ 52 + (j + suc n) → s + 1023 ≡ suc j + suc n
          by s n j h = omega arith

  finite-exponent : e +ℤ pos s ≡ sub_ℕ (suc j) 1023
  finite-exponent = let q = equation in q.3 (same_place (suc m) s (2 ^ 52 + t) q.0 q.1 lo hi at_least at_most q.2)

  mantissa-value : HasValue (fin false (suc m) (neg_ℤ (pos s))) false (2 ^ 52 + t) (2 ^ 52)
  mantissa-value =
      let q = equation in
      (refl, ap (λ (z : ℕ). suc m * z * 2 ^ 52) (up_neg s) ∙ ap (λ (z : ℕ). z * 2 ^ 52) (mul-one (suc m)) ∙ same_digits (suc m) s (2 ^ 52 + t) q.0 q.1 lo hi at_least at_most q.2 ∙ ap (λ (z : ℕ). (2 ^ 52 + t) * z) (sym (down-neg s)))

  mantissa-fits : T (fits binary64 (fin false (suc m) (neg_ℤ (pos s))))
  unfolding fits
  mantissa-fits =
      let E = neg_ℤ (pos s) in
      let a = eqb (suc m % 2) 1 in
      let b = ltb (suc m) (2 ^ 53) in
      let c = leb (down E) (2 ^ 1074) in
      let M = fits_lt binary64 false (suc m) e F in
      and_i (a && b && c) (ltb (suc m * up E) (2 ^ 1024 * down E))
      (and_i (a && b) c (and_i a b (eq→eqb (fits-odd binary64 false m e F)) (lt→ltb (suc m) (2 ^ 53) M)) (le→leb (down E) (2 ^ 1074) (le_trans (le_of_eq (down-neg s)) (pow_mono {j = 1074} (le_trans small_size (lit≤ tt))))))
      (lt→ltb (suc m * up E) (2 ^ 1024 * down E)
      (lt_of_le_of_lt (le_of_eq (ap (λ (z : ℕ). suc m * z) (up_neg s) ∙ mul-one (suc m)))
      (lt_of_lt_of_le M (le_trans (lit≤ tt) (le_trans (le_of_eq (sym (mul-one (2 ^ 1024)))) (mul-le-mul_left (2 ^ 1024) (subst (λ (z : ℕ). 1 ≤ z) (sym (down-neg s)) (pow_pos s))))))))

  finite-mantissa : of_bits binary64 (1023 * 2 ^ 52 + t) ≡ fin false (suc m) (neg_ℤ (pos s))
  finite-mantissa =
      ap (of_bits binary64) (go t)
      ∙ same-value binary64 (of_bits binary64 (1022 * 2 ^ 52 + N)) (fin false (suc m) (neg_ℤ (pos s))) false N (2 ^ 52) (pow_pos 52) (of_bits-fits binary64 (1022 * 2 ^ 52 + N)) mantissa-fits
      (subst (λ (x : Float). HasValue x false N (2 ^ 52)) (sym built) (revalue (units binary64 false N 1022) false (N * 2 ^ 1022) (2 ^ 1074) N (2 ^ 52) (pow_pos 1074) (mul_assoc N (2 ^ 1022) (2 ^ 52)) (units_val binary64 false N 1022 inside)))
      mantissa-value
    where
      N : ℕ
      N = 2 ^ 52 + t

      go : (t : ℕ) → 1023 * 2 ^ 52 + t ≡ 1022 * 2 ^ 52 + (2 ^ 52 + t)
      go t = omega arith

      built : of_bits binary64 (1022 * 2 ^ 52 + N) ≡ units binary64 false N 1022
      built = build binary64 N 1022 (inr at_least) (le_of_lt at_most) (lit≤ tt)

      inside : N * 2 ^ 1022 < 2 ^ 2098
      inside = lt_of_lt_of_le (shl_lt 53 1022 at_most) (pow_mono {i = 1075} {j = 2098} (lit≤ tt))

-- ---- x by its pattern's field and digits
pub record Parts (x : Float) (field t : ℕ) : Type 0 where
  pub most : field ≤ 2047
  pub exponent : sub_ℕ field 1023 ≡ exponent_of x
  pub mantissa : of_bits binary64 (1023 * 2 ^ 52 + t) ≡ mantissa_of x

least : min_positive ≡ fin false 1 (negsuc 1021)
unfolding of_bits
least = refl

above-null : (x : Float) → T (above x) → T (lt null x)
unfolding lt
above-null nan h = absurd h
above-null (inf true) h = absurd h
above-null (inf false) h = tt
above-null (fin true m e) h = absurd h
above-null (fin false m e) h = lt→ltb (0 * 1 * down e) (m * up e * 1) (go (down e) (m * up e) (mul-pos (ltb→lt 0 m h) (up_pos e)))
  where
    go : (d a : ℕ) → 0 < a → 0 * 1 * d < a * 1
    go d a h = le_trans (le_of_eq (ap suc (ap (λ (z : ℕ). z * d) (mul-one 0) ∙ native.Mathlib.Nat.zero-mul d))) (le_trans h (le_of_eq (sym (mul-one a))))

above_zero : (x : Float) → T (le min_positive x) → T (above x)
above_zero x h = above_of_le (fin false 1 (negsuc 1021)) x tt (subst (λ (l : Float). T (le l x)) least h)

pub number : (x : Float) → T (le min_positive x) → T (not (is_nan x))
number x h = above_no_nan x (above-null x (above_zero x h))

-- a field of 0 is a subnormal number's
not-subnormal : (x : Float) (t : ℕ) → T (above x) → T (le min_positive x) → t < 2 ^ 52 → HasValue x false (t * 2 ^ 0) (2 ^ 1074) → ⊥
not-subnormal nan t a h few v = absurd v
not-subnormal (inf g) t a h few v = absurd v
not-subnormal (fin true m e) t a h few v = absurd a
not-subnormal (fin false m e) t a h few v =
    lt_irrefl (2 ^ 1074) (lt_of_le_of_lt (values_of_le (fin false 1 (negsuc 1021)) (fin false m e) 1 (2 ^ 1022) (t * 2 ^ 0) (2 ^ 1074) tt a (refl, refl) v (subst (λ (l : Float). T (le l (fin false m e))) least h)) (go t few))
  where
    go : (t : ℕ) → t < 2 ^ 52 → t * 2 ^ 0 * 2 ^ 1022 < 1 * 2 ^ 1074
    go t h = lt_of_le_of_lt (le_of_eq (ap (λ (z : ℕ). z * 2 ^ 1022) (mul-one t))) (shl_lt 52 1022 h)

finite-parts : (x : Float) (t j : ℕ) → T (fits binary64 x) → t < 2 ^ 52 → HasValue x false ((2 ^ 52 + t) * 2 ^ j) (2 ^ 1074) → (sub_ℕ (suc j) 1023 ≡ exponent_of x) × (of_bits binary64 (1023 * 2 ^ 52 + t) ≡ mantissa_of x)
unfolding exponent_of mantissa_of
finite-parts nan t j F few v = absurd v
finite-parts (inf g) t j F few v = absurd v
finite-parts (fin true m e) t j F few v = absurd (true≢false v.0)
finite-parts (fin false zero e) t j F few v = absurd (positive_of_value (fin false zero e) ((2 ^ 52 + t) * 2 ^ j) (2 ^ 1074) v (mul-pos (go t) (pow_pos j)))
  where
    go : (t : ℕ) → 0 < 2 ^ 52 + t
    go t = omega arith
finite-parts (fin false (suc m) e) t j F few v = (sym (finite-exponent m e F t j few v), finite-mantissa m e F t j few v)

infinite-parts : (x : Float) → x ≡ inf false → Parts x (to_bits binary64 x / 2 ^ 52) (to_bits binary64 x % 2 ^ 52)
unfolding to_bits of_bits exponent_of mantissa_of
infinite-parts x e = subst (λ (x : Float). Parts x (to_bits binary64 x / 2 ^ 52) (to_bits binary64 x % 2 ^ 52)) (sym e) (record { most = lit≤ tt; exponent = refl; mantissa = refl })

pub parts : (x : Float) → T (fits binary64 x) → T (le min_positive x) → Parts x (to_bits binary64 x / 2 ^ 52) (to_bits binary64 x % 2 ^ 52)
parts x F h =
    let a = above_zero x h in
    let w = seen binary64 x F (above-null x a) in
    go w.0 w.1
  where
    b : ℕ
    b = to_bits binary64 x

    few : b % 2 ^ 52 < 2 ^ 52
    few = mod-lt b (pow_pos 52)

    go : b < 2 ^ 63 → Seen binary64 x (b / 2 ^ 52) (b % 2 ^ 52) → Parts x (b / 2 ^ 52) (b % 2 ^ 52)
    go l (inl z) = absurd (not-subnormal x (b % 2 ^ 52) (above_zero x h) h few z.1)
    go l (inr (inl z)) =
        let p = finite-parts x (b % 2 ^ 52) z.0 F few z.3 in
        record { most = most b l; exponent = ap (λ (k : ℕ). sub_ℕ k 1023) z.2 ∙ p.0; mantissa = p.1 }
      where
        most : (b : ℕ) → b < 2 ^ 63 → b / 2 ^ 52 ≤ 2047
        most b l = omega arith
    go l (inr (inr z)) = infinite-parts x z.1

pub mantissa-number : (t : ℕ) → t < 2 ^ 52 → T (not (nan_bits binary64 (1023 * 2 ^ 52 + t)))
mantissa-number t few = subst (λ (b : ℕ). T (not (nan_bits binary64 b))) (go t) (no-nan-bits binary64 (2 ^ 52 + t) 1022 (inr (least t)) (most t few) (lit≤ tt))
  where
    go : (t : ℕ) → 1022 * 2 ^ 52 + (2 ^ 52 + t) ≡ 1023 * 2 ^ 52 + t
    go t = omega arith

    least : (t : ℕ) → 2 ^ 52 ≤ 2 ^ 52 + t
    least t = omega arith

    most : (t : ℕ) → t < 2 ^ 52 → 2 ^ 52 + t ≤ 2 ^ 53
    most t h = omega arith

-- ---- the signed difference that the code takes
pub difference-fits : (field : ℕ) → field ≤ 2047 → SFits w32 (sub_ℕ field 1023)
difference-fits n m = go (ltb n 1023) (ltb→lt n 1023) (nltb→le n 1023)
  where
    low : (n : ℕ) → 1023 - suc n < 2 ^ 31
    low n = omega arith

    high : (n : ℕ) → n ≤ 2047 → n - 1023 < 2 ^ 31
    high n m = omega arith

    go : (t : Bool) → (T t → n < 1023) → (T (not t) → 1023 ≤ n) → SFits w32 (sub_ℕ n 1023)
    go true y k = subst (SFits w32) (sym (subℕ-lt n 1023 (y tt))) (record { sfits = low n })
    go false y k = subst (SFits w32) (sym (subℕ-ge n 1023 (k tt))) (record { sfits = high n m })

pub difference-small : (field : ℕ) → field ≤ 2047 → T (lt_z (sub_ℕ field 1023) (pos 1025))
difference-small n m = go (ltb n 1023) (ltb→lt n 1023) (nltb→le n 1023)
  where
    high : (n : ℕ) → n ≤ 2047 → n - 1023 < 1025
    high n m = omega arith

    go : (t : Bool) → (T t → n < 1023) → (T (not t) → 1023 ≤ n) → T (lt_z (sub_ℕ n 1023) (pos 1025))
    go true y k = subst (λ (z : ℤ). T (lt_z z (pos 1025))) (sym (subℕ-lt n 1023 (y tt))) tt
    go false y k = subst (λ (z : ℤ). T (lt_z z (pos 1025))) (sym (subℕ-ge n 1023 (k tt))) (lt→ltb (n - 1023) 1025 (high n m))

-- ---- which x the tests of `ln` leave
pub not-below : (x : Float) → is_nan x ≡ false → lt x min_positive ≡ false → T (le min_positive x)
not-below x n h = subst (λ (l : Float). T (le l x)) (sym least) (le-of-not-below (fin false 1 (negsuc 1021)) x tt n (subst (λ (l : Float). lt x l ≡ false) least h))

-- either zero equals +0
zero-equal : (g : Bool) → eq (fin g 0 (pos 0)) null ≡ true
unfolding eq
zero-equal true = refl
zero-equal false = refl

nan_is : is_nan nan ≡ true
unfolding is_nan
nan_is = refl

null-or-above : (x : Float) → T (fits binary64 x) → is_nan x ≡ false → lt x null ≡ false → eq x null ≡ false → T (lt null x)
null-or-above x F n h g = go (lt null x) refl
  where
    zero-or-nan : ((s : Bool) × (x ≡ fin s 0 (pos 0))) ⊎ (x ≡ nan) → ⊥
    zero-or-nan (inl z) = true≢false (sym (zero-equal z.0) ∙ ap (λ (v : Float). eq v null) (sym z.1) ∙ g)
    zero-or-nan (inr z) = true≢false (sym nan_is ∙ ap is_nan (sym z) ∙ n)

    go : (b : Bool) → lt null x ≡ b → T (lt null x)
    go true e = yes e
    go false e = absurd (zero-or-nan (level binary64 x F (no e) (no h)))

above-positive : (x : Float) → T (lt null x) → lt x (fin false 1 (negsuc 1021)) ≡ true → T (positive x)
unfolding lt
above-positive nan a l = absurd a
above-positive (inf true) a l = absurd a
above-positive (inf false) a l = absurd (true≢false (sym l))
above-positive (fin true m e) a l = absurd a
above-positive (fin false m e) a l = lt→ltb 0 m (first_pos m (up e) (first_pos (m * up e) 1 (lt_of_le_of_lt Prim.Native.Nat.zero-le (ltb→lt (0 * 1 * down e) (m * up e * 1) a))))

-- the smallest double is 2 ^ -1074
den-most : (x : Float) → T (positive x) → T (fits binary64 x) → den x ≤ 2 ^ 1074
den-most nan p F = absurd p
den-most (inf g) p F = absurd p
den-most (fin g m e) p F = let k = den-power binary64 g m e F in subst (λ (d : ℕ). d ≤ 2 ^ 1074) (sym k.1) (pow_mono k.2)

num-least : (x : Float) → T (positive x) → 1 ≤ num x
num-least nan p = absurd p
num-least (inf g) p = absurd p
num-least (fin true m e) p = absurd p
num-least (fin false m e) p = mul-pos (ltb→lt 0 m p) (up_pos e)

scale-is : subnormal_scale ≡ fin false 0x1f_ffff_ffff_ffe7 (pos 11)
unfolding of_bits
scale-is = refl

least-rounded : round binary64 false 1 (2 ^ 1022) ≡ min_positive
unfolding round of_bits
least-rounded = refl

pub scaled-normal : (x : Float) → T (fits binary64 x) → is_nan x ≡ false → lt x (of_bits binary64 0) ≡ false → eq x (of_bits binary64 0) ≡ false → lt x min_positive ≡ true → T (le min_positive (mul binary64 x subnormal_scale))
scaled-normal x F n h g l =
    let L = 0x1f_ffff_ffff_ffe7 * 2 ^ 11 in
    let p = above-positive x (null-or-above x F n (rw zero-64 at h) (rw zero-64 at g)) (subst (λ (v : Float). lt x v ≡ true) least l) in
    let product = mul_at binary64 x (fin false 0x1f_ffff_ffff_ffe7 (pos 11)) (num x) (den x) L 1 p tt (den_pos x) (lit< tt) (own_value x p) (refl, refl) in
    subst (λ (v : Float). T (le min_positive (mul binary64 x v))) (sym scale-is)
    (subst (λ (v : Float). T (le min_positive v)) (sym product)
    (subst (λ (v : Float). T (le v (round binary64 false (num x * L) (den x * 1)))) least-rounded
    (round_mono binary64 1 (2 ^ 1022) (num x * L) (den x * 1) (pow_pos 1022) (subst (λ (d : ℕ). 0 < d) (sym (mul-one (den x))) (den_pos x))
    (le_trans (le_of_eq (one-mul (den x * 1) ∙ mul-one (den x)))
    (le_trans (den-most x p F)
    (le_trans (lit≤ {n = 1 * (L * 2 ^ 1022)} tt)
    (le_trans (mul-le-mul_right (L * 2 ^ 1022) (num-least x p)) (le_of_eq (sym (mul_assoc (num x) L (2 ^ 1022)))))))))))
