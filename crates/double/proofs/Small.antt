-- A whole float below 2 ^ 52 in size: the lossless cast to `i64` takes it, once -0 is made +0 by adding 0. And `round_of` gives whole floats.
use mathlib.Core.Path.{◌≡◌, refl, sym, ap, ◌∙◌, subst}
use mathlib.Core.Bool.{Bool, true, false, not, ◌&&◌}
use Prim.Native.Nat.{ℕ, zero, suc, ◌+◌, ◌-◌, ◌*◌, ◌/◌, ◌%◌, ◌^◌, ◌≤◌, ◌<◌}
use native.Mathlib.Nat.{le_of_lt, lt_of_lt_of_le, lt_of_le_of_lt, le_of_eq, le_trans, mul-one, zero-mul, mul-pos, zero-lt-suc, mul-mod_left, div-lt_iff_lt-mul}
use native.Mathlib.Omega.{arith}
use lib.IntN.{ℤ, pos, negsuc}
use lib.Dec.{T, ltb, leb, eqb, lit≤, lt→ltb, le→leb, ltb→lt, eqb-suc-zero}
use lib.Arith.{le→nltb}
use lib.Pow.{pow_pos, pow_mono}
use lib.Ieee.{Float, nan, inf, fin, binary64, up, down, round, neg, add, sum, lt, fits, whole, in_signed, to_signed, of_int}
use lib.Ieee.Fits.{and_i, eq→eqb, up_pos, down_pos, add-fits}
use lib.Ieee.Exact.{HasValue}
use lib.Ieee.Positive.{num, den}
use lib.Ieee.Back.{Float-back_signed}
use Rattle.ieee.proofs.Tests.{null, two_to, cond_no, is_true}
use Rattle.ieee.proofs.Value.{round-self, zero_exp, whole-value, fits_lt}
use Rattle.rounding.specs.Whole.{half, whole_of, round_of}

-- ---- the sum with +0
plain : (a d : ℕ) → a * 1 + 0 * d ≡ a
plain a d = ap (λ (z : ℕ). a * 1 + z) (zero-mul d) ∙ go a
  where
    go : (a : ℕ) → a * 1 + 0 ≡ a
    go a = omega arith

less : (a d : ℕ) → a * 1 - 0 * d ≡ a
less a d = ap (λ (z : ℕ). a * 1 - z) (zero-mul d) ∙ go a
  where
    go : (a : ℕ) → a * 1 - 0 ≡ a
    go a = omega arith

add-above : (m : ℕ) (e : ℤ) → T (fits binary64 (fin false m e)) → add binary64 (fin false m e) null ≡ fin false m e
unfolding add sum
add-above m e F = ap (λ (z : ℕ). round binary64 false z (down e * 1)) (plain (m * up e) (down e)) ∙ ap (λ (z : ℕ). round binary64 false (m * up e) z) (mul-one (down e)) ∙ round-self binary64 false m e F

add-below : (m : ℕ) (e : ℤ) → T (fits binary64 (fin true (suc m) e)) → add binary64 (fin true (suc m) e) null ≡ fin true (suc m) e
unfolding add sum
add-below m e F =
    let a = suc m * up e * 1 in
    let b = 0 * down e in
    cond_no (ltb a b) (round binary64 false (b - a) (down e * 1)) (round binary64 (true && ltb b a) (a - b) (down e * 1)) (le→nltb a b (le_trans (le_of_eq (zero-mul (down e))) Prim.Native.Nat.zero-le))
    ∙ ap (λ (t : Bool). round binary64 (true && t) (a - b) (down e * 1)) (is_true (ltb b a) (lt→ltb b a (lt_of_le_of_lt (le_of_eq (zero-mul (down e))) (mul-pos (mul-pos (zero-lt-suc m) (up_pos e)) (zero-lt-suc 0)))))
    ∙ ap (λ (z : ℕ). round binary64 true z (down e * 1)) (less (suc m * up e) (down e))
    ∙ ap (λ (z : ℕ). round binary64 true (suc m * up e) z) (mul-one (down e))
    ∙ round-self binary64 true (suc m) e F

-- ---- the cast
pub record Small (w : Float) : Type 0 where
  pub cast : T (in_signed binary64 63 (add binary64 w null))
  pub same : to_signed 63 (add binary64 w null) ≡ to_signed 63 w
  pub back : of_int binary64 (to_signed 63 w) ≡ add binary64 w null

made : (w : Float) → T (in_signed binary64 63 (add binary64 w null)) → to_signed 63 (add binary64 w null) ≡ to_signed 63 w → Small w
made w t e = record { cast = t; same = e; back = ap (λ (z : ℤ). of_int binary64 z) (sym e) ∙ (Float-back_signed binary64 63 (add binary64 w null) (add-fits binary64 w null) t).1 }

module _ (m : ℕ) (e : ℤ) (r : m * up e % down e ≡ 0) (h : m * up e / down e < 2 ^ 52) where
  in-above : T (in_signed binary64 63 (fin false m e))
  unfolding in_signed whole
  in-above =
      let q = m * up e / down e in
      let a = eqb (m * up e % down e) 0 in
      let b = leb q (2 ^ 53) in
      and_i (a && b && true) (ltb q (2 ^ 63)) (and_i (a && b) true (and_i a b (eq→eqb r) (le→leb q (2 ^ 53) (le_of_lt (lt_of_lt_of_le h (lit≤ tt))))) tt) (lt→ltb q (2 ^ 63) (lt_of_lt_of_le h (lit≤ tt)))

module _ (m : ℕ) (e : ℤ) (r : suc m * up e % down e ≡ 0) (h : suc m * up e / down e < 2 ^ 52) where
  in-below : T (in_signed binary64 63 (fin true (suc m) e))
  unfolding in_signed whole
  in-below =
      let q = suc m * up e / down e in
      let a = eqb (suc m * up e % down e) 0 in
      let b = leb q (2 ^ 53) in
      and_i (a && b && not (eqb (suc m) 0)) (leb q (2 ^ 63))
      (and_i (a && b) (not (eqb (suc m) 0)) (and_i a b (eq→eqb r) (le→leb q (2 ^ 53) (le_of_lt (lt_of_lt_of_le h (lit≤ tt))))) (subst (λ (t : Bool). T (not t)) (sym (eqb-suc-zero m)) tt))
      (le→leb q (2 ^ 63) (le_of_lt (lt_of_lt_of_le h (lit≤ tt))))

minus-zero : Small (fin true 0 (pos 0))
unfolding add in_signed whole to_signed
minus-zero = made (fin true 0 (pos 0)) tt refl

below-52 : (a d : ℕ) → 0 < d → a * 1 < 1 * 2 ^ 52 * d → a / d < 2 ^ 52
below-52 a d D h = (div-lt_iff_lt-mul D).1 (lt_of_le_of_lt (le_of_eq (sym (mul-one a))) h)

pub small : (w : Float) → T (fits binary64 w) → num w % den w ≡ 0 → T (lt w (two_to 52)) → T (lt (neg (two_to 52)) w) → Small w
unfolding lt neg
small nan F r hi lo = absurd hi
small (inf true) F r hi lo = absurd lo
small (inf false) F r hi lo = absurd hi
small (fin false m e) F r hi lo =
    let i = in-above m e r (below-52 (m * up e) (down e) (down_pos e) (ltb→lt (m * up e * 1) (1 * 2 ^ 52 * down e) hi)) in
    let s = add-above m e F in
    made (fin false m e) (subst (λ (v : Float). T (in_signed binary64 63 v)) (sym s) i) (ap (to_signed 63) s)
small (fin true zero e) F r hi lo = subst (λ (e : ℤ). Small (fin true 0 e)) (sym (zero_exp binary64 true e F)) minus-zero
small (fin true (suc m) e) F r hi lo =
    let i = in-below m e r (below-52 (suc m * up e) (down e) (down_pos e) (ltb→lt (suc m * up e * 1) (1 * 2 ^ 52 * down e) lo)) in
    let s = add-below m e F in
    made (fin true (suc m) e) (subst (λ (v : Float). T (in_signed binary64 63 v)) (sym s) i) (ap (to_signed 63) s)

-- ---- a rounded float is whole
of-value : (v : Float) (q : ℕ) → HasValue v false q 1 → num v % den v ≡ 0
of-value nan q h = absurd h
of-value (inf g) q h = absurd h
of-value (fin g m e) q h = ap (λ (z : ℕ). z % down e) (sym (mul-one (m * up e)) ∙ h.1) ∙ mul-mod_left q (down e)

of-neg : (v : Float) → num v % den v ≡ 0 → num (neg v) % den (neg v) ≡ 0
unfolding neg
of-neg nan h = h
of-neg (inf g) h = h
of-neg (fin g m e) h = h

half-few : (m k : ℕ) → m < 2 ^ 53 → half m (2 ^ suc k) ≤ 2 ^ 53
half-few m k h = le_of_lt ((div-lt_iff_lt-mul (mul-pos (zero-lt-suc 1) (pow_pos (suc k)))).1 (go m (2 ^ suc k) h (pow_mono {i = 1} {j = suc k} (one k))))
  where
    one : (k : ℕ) → 1 ≤ suc k
    one k = omega arith

    go : (m d : ℕ) → m < 2 ^ 53 → 2 ≤ d → 2 * m + d < 2 ^ 53 * (2 * d)
    go m d h g = omega arith

pub rounded-whole : (y : Float) → T (fits binary64 y) → num (round_of binary64 y) % den (round_of binary64 y) ≡ 0
unfolding whole_of
rounded-whole nan F = refl
rounded-whole (inf g) F = refl
rounded-whole (fin g m (pos k)) F = native.Mathlib.Nat.mod-one (m * 2 ^ k)
rounded-whole (fin false m (negsuc k)) F = of-value (of_int binary64 (pos (half m (2 ^ suc k)))) (half m (2 ^ suc k)) (whole-value binary64 (half m (2 ^ suc k)) (half-few m k (fits_lt binary64 false m (negsuc k) F)))
rounded-whole (fin true m (negsuc k)) F =
    of-neg (of_int binary64 (pos (half m (2 ^ suc k)))) (of-value (of_int binary64 (pos (half m (2 ^ suc k)))) (half m (2 ^ suc k)) (whole-value binary64 (half m (2 ^ suc k)) (half-few m k (fits_lt binary64 true m (negsuc k) F))))
