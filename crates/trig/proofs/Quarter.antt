-- The nearest whole number of a small quotient, by comparisons with halves: what `round_of` and the cast give between -5/2 and 5/2.
use mathlib.Core.Path.{◌≡◌, refl, sym, ap, ◌∙◌, subst}
use mathlib.Core.Bool.{Bool, true, false, not}
use Prim.Native.Nat.{ℕ, zero, suc, ◌+◌, ◌*◌, ◌^◌, ◌≤◌, ◌<◌}
use native.Mathlib.Nat.{mul-pos, zero-lt-suc, div-eq_of_lt}
use native.Mathlib.Omega.{arith}
use lib.IntN.{ℤ, pos, negsuc}
use lib.Dec.{T, T_not, ltb, lt→ltb, ltb→lt, nltb→le}
use lib.Ieee.{Float, nan, inf, fin, binary64, up, down, fits, neg, lt, of_bits, of_int, to_signed, round, units}
use lib.Ieee.Fits.{up_pos, down_pos, neg-fits}
use Rattle.ieee.proofs.Tests.{null}
use Rattle.ieee.proofs.Value.{zero_exp}
use Rattle.ieee.proofs.Whole.{div_is}
use Rattle.rounding.specs.Whole.{half, whole_of, round_of}
use Rattle.rounding.proofs.Laws.{above, half-one}
use Rattle.double.specs.Double.{◌⊖◌, ◌⊗◌, ◌⊘◌, bits, one, two}
use Rattle.trig.specs.Trig.{frac_pi2, quadrant_of, sin_poly, cos_poly, turned, sin_reduced}

abbrev zero_bits : Float
zero_bits = bits 0

-- n / 2
abbrev pub halves : ℕ → Float
halves n = fin false n (negsuc 0)

-- ---- half of a fraction a / d by its bounds
half-0 : (a d : ℕ) → a * 2 < 1 * d → half a d ≡ 0
half-0 a d h = div-eq_of_lt (go a d h)
  where
    go : (a d : ℕ) → a * 2 < 1 * d → 2 * a + d < 2 * d
    go a d h = omega arith

half-1 : (a d : ℕ) → 0 < d → 1 * d ≤ a * 2 → a * 2 < 3 * d → half a d ≡ 1
half-1 a d D l h = div_is (2 * a + d) (2 * d) 1 (mul-pos (zero-lt-suc 1) D) (low a d l) (high a d h)
  where
    low : (a d : ℕ) → 1 * d ≤ a * 2 → 1 * (2 * d) ≤ 2 * a + d
    low a d l = omega arith

    high : (a d : ℕ) → a * 2 < 3 * d → 2 * a + d < 1 * (2 * d) + 2 * d
    high a d h = omega arith

half-2 : (a d : ℕ) → 0 < d → 3 * d ≤ a * 2 → a * 2 < 5 * d → half a d ≡ 2
half-2 a d D l h = div_is (2 * a + d) (2 * d) 2 (mul-pos (zero-lt-suc 1) D) (low a d l) (high a d h)
  where
    low : (a d : ℕ) → 3 * d ≤ a * 2 → 2 * (2 * d) ≤ 2 * a + d
    low a d l = omega arith

    high : (a d : ℕ) → a * 2 < 5 * d → 2 * a + d < 2 * (2 * d) + 2 * d
    high a d h = omega arith

-- ---- a positive number below 5/2
module _ (m : ℕ) (e : ℤ) (F : T (fits binary64 (fin false m e))) (p : 0 < m * up e) (s : m * up e * 2 < 5 * down e) where
  pub rounded : (n : ℕ) → half (m * up e) (down e) ≡ n → round_of binary64 (fin false m e) ≡ of_int binary64 (pos n)
  unfolding lt
  rounded n h =
      sym
      (above binary64 half half (fin false m e) half-one F (lt→ltb (0 * 1 * down e) (m * up e * 1) (low (m * up e) (down e) p))
      (lt→ltb (m * up e * 1) (1 * 2 ^ 52 * down e) (high (m * up e) (down e) s)))
      ∙ ap (λ (k : ℕ). of_int binary64 (pos k)) h
    where
      low : (a d : ℕ) → 0 < a → 0 * 1 * d < a * 1
      low a d h = omega arith

      high : (a d : ℕ) → a * 2 < 5 * d → a * 1 < 1 * 2 ^ 52 * d
      high a d h = omega arith

-- a negative one is rounded by its size
rounded-below : (m : ℕ) (e : ℤ) (x : Float) → 0 < m * up e → round_of binary64 (fin false m e) ≡ x → round_of binary64 (fin true m e) ≡ neg x
unfolding lt neg
rounded-below m e x p h = sym (Rattle.rounding.proofs.Laws.turned binary64 half half (fin true m e) (lt→ltb 0 (m * up e * 1 + 0 * 1 * down e) (go (m * up e) (down e) p))) ∙ ap neg h
  where
    go : (a d : ℕ) → 0 < a → 0 < a * 1 + 0 * 1 * d
    go a d h = omega arith

under : (b a d : ℕ) → a * 2 < b * 1 * d → a * 2 < b * d
under b a d h = omega arith

zero-no : {A : Type 0} (m : ℕ) (d : ℕ) → 0 < d → T (not (ltb 0 (m * 2 + 1 * 1 * d))) → A
zero-no m d D g = absurd (T_not (ltb 0 (m * 2 + 1 * 1 * d)) g (lt→ltb 0 (m * 2 + 1 * 1 * d) (go m d D)))
  where
    go : (a d : ℕ) → 0 < d → 0 < a * 2 + 1 * 1 * d
    go a d h = omega arith

-- ---- above zero: the number itself
some : (m : ℕ) (e : ℤ) → T (lt null (fin false (suc m) e))
unfolding lt
some m e = lt→ltb (0 * 1 * down e) (suc m * up e * 1) (go (suc m * up e) (down e) (mul-pos (zero-lt-suc m) (up_pos e)))
  where
    go : (a d : ℕ) → 0 < a → 0 * 1 * d < a * 1
    go a d h = omega arith

pub round-0 : (z : Float) → T (fits binary64 z) → T (lt null z) → T (lt z (halves 1)) → round_of binary64 z ≡ null
unfolding lt
round-0 nan F g h = absurd h
round-0 (inf true) F g h = absurd g
round-0 (inf false) F g h = absurd h
round-0 (fin true m e) F g h = absurd g
round-0 (fin false m e) F g h =
    let p = low (m * up e) (down e) (ltb→lt (0 * 1 * down e) (m * up e * 1) g) in
    let l = under 1 (m * up e) (down e) (ltb→lt (m * up e * 2) (1 * 1 * down e) h) in
    rounded m e F p (most (m * up e) (down e) l) 0 (half-0 (m * up e) (down e) l) ∙ (unfold of_int round units in refl)
  where
    low : (a d : ℕ) → 0 * 1 * d < a * 1 → 0 < a
    low a d h = omega arith

    most : (a d : ℕ) → a * 2 < 1 * d → a * 2 < 5 * d
    most a d h = omega arith

pub round-1 : (z : Float) → T (fits binary64 z) → T (not (lt z (halves 1))) → T (lt z (halves 3)) → round_of binary64 z ≡ of_int binary64 (pos 1)
unfolding lt
round-1 nan F g h = absurd h
round-1 (inf true) F g h = absurd g
round-1 (inf false) F g h = absurd h
round-1 (fin true m e) F g h = zero-no (m * up e) (down e) (down_pos e) g
round-1 (fin false m e) F g h =
    let a = m * up e in
    let d = down e in
    let l = nltb→le (a * 2) (1 * 1 * d) g in
    let u = under 3 a d (ltb→lt (a * 2) (3 * 1 * d) h) in
    rounded m e F (low a d (down_pos e) l) (most a d u) 1 (half-1 a d (down_pos e) (least a d l) u)
  where
    low : (a d : ℕ) → 0 < d → 1 * 1 * d ≤ a * 2 → 0 < a
    low a d D h = omega arith

    least : (a d : ℕ) → 1 * 1 * d ≤ a * 2 → 1 * d ≤ a * 2
    least a d h = omega arith

    most : (a d : ℕ) → a * 2 < 3 * d → a * 2 < 5 * d
    most a d h = omega arith

pub round-2 : (z : Float) → T (fits binary64 z) → T (not (lt z (halves 1))) → T (not (lt z (halves 3))) → T (lt z (halves 5)) → round_of binary64 z ≡ of_int binary64 (pos 2)
unfolding lt
round-2 nan F f g h = absurd h
round-2 (inf true) F f g h = absurd g
round-2 (inf false) F f g h = absurd h
round-2 (fin true m e) F f g h = zero-no (m * up e) (down e) (down_pos e) f
round-2 (fin false m e) F f g h =
    let a = m * up e in
    let d = down e in
    let l = nltb→le (a * 2) (3 * 1 * d) g in
    let u = under 5 a d (ltb→lt (a * 2) (5 * 1 * d) h) in
    rounded m e F (low a d (down_pos e) l) u 2 (half-2 a d (down_pos e) (least a d l) u)
  where
    low : (a d : ℕ) → 0 < d → 3 * 1 * d ≤ a * 2 → 0 < a
    low a d D h = omega arith

    least : (a d : ℕ) → 3 * 1 * d ≤ a * 2 → 3 * d ≤ a * 2
    least a d h = omega arith

-- ---- below zero: by the number's size
below-no : {A : Type 0} (m : ℕ) (e : ℤ) → T (not (ltb 0 (1 * 1 * down e + m * up e * 2))) → A
below-no m e g = absurd (T_not (ltb 0 (1 * 1 * down e + m * up e * 2)) g (lt→ltb 0 (1 * 1 * down e + m * up e * 2) (go (m * up e) (down e) (down_pos e))))
  where
    go : (a d : ℕ) → 0 < d → 0 < 1 * 1 * d + a * 2
    go a d h = omega arith

past-half : (m : ℕ) (e : ℤ) → T (not (ltb (m * up e * 2) (1 * 1 * down e))) → 0 < m * up e
past-half m e g = low (m * up e) (down e) (down_pos e) (nltb→le (m * up e * 2) (1 * 1 * down e) g)
  where
    low : (a d : ℕ) → 0 < d → 1 * 1 * d ≤ a * 2 → 0 < a
    low a d D h = omega arith

pub round-below-1 : (z : Float) → T (fits binary64 z) → T (not (lt (neg (halves 1)) z)) → T (lt (neg (halves 3)) z) → round_of binary64 z ≡ neg (of_int binary64 (pos 1))
unfolding lt neg
round-below-1 nan F g h = absurd h
round-below-1 (inf true) F g h = absurd h
round-below-1 (inf false) F g h = absurd g
round-below-1 (fin false m e) F g h = below-no m e g
round-below-1 (fin true m e) F g h = rounded-below m e (of_int binary64 (pos 1)) (past-half m e g) (round-1 (fin false m e) (neg-fits binary64 (fin true m e) F) g h)

pub round-below-2 : (z : Float) → T (fits binary64 z) → T (not (lt (neg (halves 1)) z)) → T (not (lt (neg (halves 3)) z)) → T (lt (neg (halves 5)) z) → round_of binary64 z ≡ neg (of_int binary64 (pos 2))
unfolding lt neg
round-below-2 nan F f g h = absurd h
round-below-2 (inf true) F f g h = absurd h
round-below-2 (inf false) F f g h = absurd f
round-below-2 (fin false m e) F f g h = below-no m e f
round-below-2 (fin true m e) F f g h = rounded-below m e (of_int binary64 (pos 2)) (past-half m e f) (round-2 (fin false m e) (neg-fits binary64 (fin true m e) F) f g h)

-- ---- the quarter turns that the cast reads
pub turns-0 : (z : Float) → T (fits binary64 z) → T (lt z (halves 1)) → T (lt (neg (halves 1)) z) → to_signed 63 (round_of binary64 z) ≡ pos 0
unfolding lt neg
turns-0 nan F h g = absurd h
turns-0 (inf true) F h g = absurd g
turns-0 (inf false) F h g = absurd h
turns-0 (fin s zero e) F h g = subst (λ (e : ℤ). to_signed 63 (round_of binary64 (fin s 0 e)) ≡ pos 0) (sym (zero_exp binary64 s e F)) (none s)
  where
    none : (s : Bool) → to_signed 63 (round_of binary64 (fin s 0 (pos 0))) ≡ pos 0
    none true = unfold to_signed whole_of in refl
    none false = unfold to_signed whole_of in refl
turns-0 (fin false (suc m) e) F h g = ap (to_signed 63) (round-0 (fin false (suc m) e) F (some m e) h) ∙ (unfold to_signed in refl)
turns-0 (fin true (suc m) e) F h g =
    ap (to_signed 63) (rounded-below (suc m) e null (mul-pos (zero-lt-suc m) (up_pos e)) (round-0 (fin false (suc m) e) (neg-fits binary64 (fin true (suc m) e) F) (some m e) g)) ∙ (unfold to_signed in refl)

pub turns-1 : (z : Float) → round_of binary64 z ≡ of_int binary64 (pos 1) → to_signed 63 (round_of binary64 z) ≡ pos 1
turns-1 z h = ap (to_signed 63) h ∙ (unfold to_signed of_int round units in refl)

pub turns-2 : (z : Float) → round_of binary64 z ≡ of_int binary64 (pos 2) → to_signed 63 (round_of binary64 z) ≡ pos 2
turns-2 z h = ap (to_signed 63) h ∙ (unfold to_signed of_int round units in refl)

pub turns-below-1 : (z : Float) → round_of binary64 z ≡ neg (of_int binary64 (pos 1)) → to_signed 63 (round_of binary64 z) ≡ negsuc 0
turns-below-1 z h = ap (to_signed 63) h ∙ (unfold to_signed neg of_int round units in refl)

pub turns-below-2 : (z : Float) → round_of binary64 z ≡ neg (of_int binary64 (pos 2)) → to_signed 63 (round_of binary64 z) ≡ negsuc 1
turns-below-2 z h = ap (to_signed 63) h ∙ (unfold to_signed neg of_int round units in refl)

-- ---- the literals as the code has them
pub halves-1 : bits 0x3fe0_0000_0000_0000 ≡ halves 1
halves-1 = unfold of_bits in refl

pub halves-3 : bits 0x3ff8_0000_0000_0000 ≡ halves 3
halves-3 = unfold of_bits in refl

pub halves-5 : bits 0x4004_0000_0000_0000 ≡ halves 5
halves-5 = unfold of_bits in refl

pub int-0 : of_int binary64 (pos 0) ≡ zero_bits
int-0 = unfold of_int round units of_bits in refl

pub int-1 : of_int binary64 (pos 1) ≡ one
int-1 = unfold of_int round units of_bits in refl

pub int-2 : of_int binary64 (pos 2) ≡ two
int-2 = unfold of_int round units of_bits in refl

pub int-below-1 : of_int binary64 (negsuc 0) ≡ neg one
int-below-1 = unfold of_int round units neg of_bits in refl

pub int-below-2 : of_int binary64 (negsuc 1) ≡ neg two
int-below-2 = unfold of_int round units neg of_bits in refl

-- ---- the sine, by the quarter turns
module _ (r : Float) where
  abbrev Q : ℤ
  Q = to_signed 63 (round_of binary64 (r ⊘ frac_pi2))

  by : (q : ℤ) (f : Float) → Q ≡ q → of_int binary64 q ≡ f → sin_reduced r ≡ turned (quadrant_of q) (r ⊖ f ⊗ frac_pi2)
  by q f h k = (λ i. turned (quadrant_of (h i)) (r ⊖ of_int binary64 (h i) ⊗ frac_pi2)) ∙ ap (λ (w : Float). turned (quadrant_of q) (r ⊖ w ⊗ frac_pi2)) k

  pub sin-0 : Q ≡ pos 0 → sin_reduced r ≡ sin_poly (r ⊖ zero_bits ⊗ frac_pi2)
  sin-0 h = by (pos 0) zero_bits h int-0 ∙ (unfold quadrant_of turned in refl)

  pub sin-1 : Q ≡ pos 1 → sin_reduced r ≡ cos_poly (r ⊖ one ⊗ frac_pi2)
  sin-1 h = by (pos 1) one h int-1 ∙ (unfold quadrant_of turned in refl)

  pub sin-2 : Q ≡ pos 2 → sin_reduced r ≡ neg (sin_poly (r ⊖ two ⊗ frac_pi2))
  sin-2 h = by (pos 2) two h int-2 ∙ (unfold quadrant_of turned in refl)

  pub sin-below-1 : Q ≡ negsuc 0 → sin_reduced r ≡ neg (cos_poly (r ⊖ neg one ⊗ frac_pi2))
  sin-below-1 h = by (negsuc 0) (neg one) h int-below-1 ∙ (unfold quadrant_of turned in refl)

  pub sin-below-2 : Q ≡ negsuc 1 → sin_reduced r ≡ neg (sin_poly (r ⊖ neg two ⊗ frac_pi2))
  sin-below-2 h = by (negsuc 1) (neg two) h int-below-2 ∙ (unfold quadrant_of turned in refl)
