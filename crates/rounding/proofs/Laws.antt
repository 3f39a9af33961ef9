-- Laws of `whole_of`: where x stays, what it is above zero, and what below.
use mathlib.Core.Path.{◌≡◌, refl, sym, ap, ◌∙◌, subst}
use mathlib.Core.Bool.{Bool, true, false, not}
use Prim.Native.Nat.{ℕ, zero, suc, ◌+◌, ◌-◌, ◌*◌, ◌^◌, ◌≤◌, ◌<◌}
use native.Mathlib.Nat.{le_of_lt, lt_of_lt_of_le, mul-one, one-mul, mul_assoc, mul-le-mul_left, pow-suc, div-one}
use native.Mathlib.Omega.{arith}
use lib.IntN.{ℤ, pos, negsuc}
use lib.Dec.{T, ltb, ltb→lt, lt→ltb, nltb→le, lit≤}
use lib.Pow.{pow_pos, pow_mono}
use lib.Ieee.{Float, nan, inf, fin, Format, prec, up, down, fits, neg, lt, of_int}
use lib.Ieee.Positive.{num, den}
use Rattle.ieee.proofs.Tests.{null, two_to, yes, no}
use Rattle.ieee.proofs.Value.{fits_lt, zero_exp, same-value, whole-value}
use Rattle.rounding.specs.Whole.{whole_of, cut, ceil, half}

-- ---- what is whole
abbrev pub broken : Float → Bool
broken nan = false
broken (inf s) = false
broken (fin s m (pos k)) = false
broken (fin s m (negsuc k)) = true

pub stays : (f : Format) (p n : ℕ → ℕ → ℕ) (x : Float) → T (not (broken x)) → x ≡ whole_of f p n x
unfolding whole_of
stays f p n nan h = refl
stays f p n (inf s) h = refl
stays f p n (fin s m (pos k)) h = refl
stays f p n (fin s m (negsuc k)) h = absurd h

-- from 2 ^ (prec - 1) up, and from -2 ^ (prec - 1) down
too_large : (p m k : ℕ) → m < 2 ^ suc p → 1 * 2 ^ p * 2 ^ suc k ≤ m * 1 * 1 → ⊥
too_large p m k h g = go (2 ^ p) (2 ^ k) (2 ^ p * 2 ^ k) (pow_pos k) (mul-le-mul_left (2 ^ p) (pow_pos k)) (subst (λ (z : ℕ). m < z) (pow-suc 2 p) h)
    (subst (λ (z : ℕ). z ≤ m) (ap (λ (z : ℕ). z * 2 ^ suc k) (one-mul (2 ^ p)) ∙ ap (λ (z : ℕ). 2 ^ p * z) (pow-suc 2 k) ∙ sym (mul_assoc (2 ^ p) (2 ^ k) 2)) (subst (λ (z : ℕ). 1 * 2 ^ p * 2 ^ suc k ≤ z) (mul-one (m * 1) ∙ mul-one m) g))
  where
    go : (a b c : ℕ) → 0 < b → a * 1 ≤ c → m < a * 2 → c * 2 ≤ m → ⊥
    go a b c q l h g = omega arith

top-is : (f : Format) → prec f ≡ suc (prec f - 1)
top-is lib.Ieee.binary32 = refl
top-is lib.Ieee.binary64 = refl

pub whole_above : (f : Format) (x : Float) → T (fits f x) → T (lt null x) → T (not (lt x (two_to (prec f - 1)))) → T (not (broken x))
unfolding lt
whole_above f nan F a b = tt
whole_above f (inf s) F a b = tt
whole_above f (fin s m (pos k)) F a b = tt
whole_above f (fin true m (negsuc k)) F a b = absurd a
whole_above f (fin false m (negsuc k)) F a b =
    absurd (too_large (prec f - 1) m k (subst (λ (z : ℕ). m < 2 ^ z) (top-is f) (fits_lt f false m (negsuc k) F)) (nltb→le (m * 1 * 1) (1 * 2 ^ (prec f - 1) * 2 ^ suc k) b))

none-under : (a d : ℕ) → a < 0 * 1 * d → ⊥
none-under a d h = omega arith

pub whole_below : (f : Format) (x : Float) → T (fits f x) → T (lt x null) → T (not (lt (neg (two_to (prec f - 1))) x)) → T (not (broken x))
unfolding lt neg
whole_below f nan F a b = tt
whole_below f (inf s) F a b = tt
whole_below f (fin s m (pos k)) F a b = tt
whole_below f (fin false m (negsuc k)) F a b = absurd (none-under (m * 1 * 1) (2 ^ suc k) (ltb→lt (m * 1 * 1) (0 * 1 * 2 ^ suc k) a))
whole_below f (fin true m (negsuc k)) F a b =
    absurd (too_large (prec f - 1) m k (subst (λ (z : ℕ). m < 2 ^ z) (top-is f) (fits_lt f true m (negsuc k) F)) (nltb→le (m * 1 * 1) (1 * 2 ^ (prec f - 1) * 2 ^ suc k) b))

-- neither above nor below zero
pub whole-zero : (f : Format) (x : Float) → T (fits f x) → T (not (lt null x)) → T (not (lt x null)) → T (not (broken x))
unfolding lt
whole-zero f nan F a b = tt
whole-zero f (inf s) F a b = tt
whole-zero f (fin s m (pos k)) F a b = tt
whole-zero f (fin s zero (negsuc k)) F a b = absurd (lib.Dec.T¹→T false (subst (λ (e : ℤ). lib.Dec.T¹ (minus e)) (zero_exp f s (negsuc k) F) tt))
  where
    minus : ℤ → Bool
    minus (pos k) = false
    minus (negsuc k) = true
whole-zero f (fin false (suc m) (negsuc k)) F a b = absurd (go m (2 ^ suc k) (nltb→le (0 * 1 * 2 ^ suc k) (suc m * 1 * 1) a))
  where
    go : (m d : ℕ) → suc m * 1 * 1 ≤ 0 * 1 * d → ⊥
    go m d h = omega arith
whole-zero f (fin true (suc m) (negsuc k)) F a b = absurd (go m (2 ^ suc k) (nltb→le 0 (suc m * 1 * 1 + 0 * 1 * 2 ^ suc k) b))
  where
    go : (m d : ℕ) → suc m * 1 * 1 + 0 * 1 * d ≤ 0 → ⊥
    go m d h = omega arith

-- ---- the three ways to make a fraction whole leave a whole number
pub cut-one : (n : ℕ) → cut n 1 ≡ n
cut-one n = div-one n

pub ceil-one : (n : ℕ) → ceil n 1 ≡ n
ceil-one n = omega arith

pub half-one : (n : ℕ) → half n 1 ≡ n
half-one n = omega arith

-- ---- above zero
pub above : (f : Format) (p n : ℕ → ℕ → ℕ) (x : Float) → ((k : ℕ) → p k 1 ≡ k) → T (fits f x) → T (lt null x) → T (lt x (two_to (prec f - 1))) → of_int f (pos (p (num x) (den x))) ≡ whole_of f p n x
unfolding whole_of
above f p n nan o F a b = unfold lt in absurd a
above f p n (inf true) o F a b = unfold lt in absurd a
above f p n (inf false) o F a b = unfold lt in absurd b
above f p n (fin true m e) o F a b = unfold lt in absurd a
above f p n (fin false m (negsuc k)) o F a b = ap (λ (z : ℕ). of_int f (pos (p z (2 ^ suc k)))) (mul-one m)
above f p n (fin false m (pos k)) o F a b =
    ap (λ (z : ℕ). of_int f (pos z)) (o (m * 2 ^ k))
    ∙ same-value f (of_int f (pos (m * 2 ^ k))) (fin false m (pos k)) false (m * 2 ^ k) 1 (pow_pos 0) (lib.Ieee.Fits.of_int-fits f (pos (m * 2 ^ k))) F (whole-value f (m * 2 ^ k) (le_of_lt (small (unfold lt in b)))) (refl, refl)
  where
    small : T (ltb (m * 2 ^ k * 1) (1 * 2 ^ (prec f - 1) * 1)) → m * 2 ^ k < 2 ^ prec f
    small t = lt_of_lt_of_le (go (m * 2 ^ k) (2 ^ (prec f - 1)) (ltb→lt (m * 2 ^ k * 1) (1 * 2 ^ (prec f - 1) * 1) t)) (pow_mono (less (prec f)))
      where
        go : (a b : ℕ) → a * 1 < 1 * b * 1 → a < b
        go a b h = omega arith

        less : (p : ℕ) → p - 1 ≤ p
        less p = omega arith

-- ---- below zero: the other way round
pub turned : (f : Format) (p n : ℕ → ℕ → ℕ) (x : Float) → T (lt x null) → neg (whole_of f n p (neg x)) ≡ whole_of f p n x
unfolding whole_of neg lt
turned f p n nan h = absurd h
turned f p n (inf true) h = refl
turned f p n (inf false) h = absurd h
turned f p n (fin true m (pos k)) h = refl
turned f p n (fin true m (negsuc k)) h = refl
turned f p n (fin false m e) h = absurd (none-under (m * up e * 1) (down e) (ltb→lt (m * up e * 1) (0 * 1 * down e) h))

pub below-neg : (w : ℕ) (x : Float) → T (lt x null) → T (lt (neg (two_to w)) x) → T (lt null (neg x)) × T (lt (neg x) (two_to w))
unfolding lt neg
below-neg w nan a b = absurd a
below-neg w (inf true) a b = absurd b
below-neg w (inf false) a b = absurd a
below-neg w (fin false m e) a b = absurd (none-under (m * up e * 1) (down e) (ltb→lt (m * up e * 1) (0 * 1 * down e) a))
below-neg w (fin true m e) a b = (lt→ltb (0 * 1 * down e) (m * up e * 1) (go (m * up e * 1) (down e) (ltb→lt 0 (m * up e * 1 + 0 * 1 * down e) a)), b)
  where
    go : (a d : ℕ) → 0 < a + 0 * 1 * d → 0 * 1 * d < a
    go a d h = omega arith

-- ---- the cases of floor and round, with the tests and the literals as the code has them: Z is 0 and L is 2 ^ (prec - 1)
module _ (f : Format) (Z L : Float) (z : Z ≡ null) (l : L ≡ two_to (prec f - 1)) (p n : ℕ → ℕ → ℕ) (x : Float) (F : T (fits f x)) where
  pub asks-above : lt Z x ≡ true → lt x L ≡ true → T (lt null x) × T (lt x (two_to (prec f - 1)))
  asks-above a b = (subst (λ (w : Float). T (lt w x)) z (yes a), subst (λ (w : Float). T (lt x w)) l (yes b))

  pub asks-below : lt x Z ≡ true → lt (neg L) x ≡ true → T (lt null (neg x)) × T (lt (neg x) (two_to (prec f - 1)))
  asks-below a b = below-neg (prec f - 1) x (subst (λ (w : Float). T (lt x w)) z (yes a)) (subst (λ (w : Float). T (lt (neg w) x)) l (yes b))

  pub gives-above : (r : Float) → ((k : ℕ) → p k 1 ≡ k) → lt Z x ≡ true → lt x L ≡ true → r ≡ of_int f (pos (p (num x) (den x))) → r ≡ whole_of f p n x
  gives-above r o a b e =
      let h = asks-above a b in
      e ∙ above f p n x o F h.0 h.1

  pub gives-below : (r : Float) → ((k : ℕ) → n k 1 ≡ k) → lt x Z ≡ true → lt (neg L) x ≡ true → r ≡ of_int f (pos (n (num (neg x)) (den (neg x)))) → neg r ≡ whole_of f p n x
  gives-below r o a b e =
      let h = asks-below a b in
      ap neg (e ∙ above f n p (neg x) o (lib.Ieee.Fits.neg-fits f x F) h.0 h.1) ∙ turned f p n x (subst (λ (w : Float). T (lt x w)) z (yes a))

  pub ends_above : lt Z x ≡ true → lt x L ≡ false → x ≡ whole_of f p n x
  ends_above a b = stays f p n x (whole_above f x F (subst (λ (w : Float). T (lt w x)) z (yes a)) (subst (λ (w : Float). T (not (lt x w))) l (no b)))

  pub ends-below : lt x Z ≡ true → lt (neg L) x ≡ false → x ≡ whole_of f p n x
  ends-below a b = stays f p n x (whole_below f x F (subst (λ (w : Float). T (lt x w)) z (yes a)) (subst (λ (w : Float). T (not (lt (neg w) x))) l (no b)))

  pub ends-level : lt Z x ≡ false → lt x Z ≡ false → x ≡ whole_of f p n x
  ends-level a b = stays f p n x (whole-zero f x F (subst (λ (w : Float). T (not (lt w x))) z (no a)) (subst (λ (w : Float). T (not (lt x w))) z (no b)))

-- ---- where x is not below zero, the way to make a negative fraction whole does not matter
pub upward : (f : Format) (p n m : ℕ → ℕ → ℕ) (x : Float) → T (fits f x) → T (not (lt x null)) → whole_of f p n x ≡ whole_of f p m x
unfolding whole_of
upward f p n m nan F h = refl
upward f p n m (inf s) F h = refl
upward f p n m (fin s k (pos e)) F h = refl
upward f p n m (fin false k (negsuc e)) F h = refl
upward f p n m (fin true k (negsuc e)) F h = absurd (none k F h)
  where
    minus : ℤ → Bool
    minus (pos k) = false
    minus (negsuc k) = true

    none : (k : ℕ) → T (fits f (fin true k (negsuc e))) → T (not (lt (fin true k (negsuc e)) null)) → ⊥
    none zero F h = lib.Dec.T¹→T false (subst (λ (e : ℤ). lib.Dec.T¹ (minus e)) (zero_exp f true (negsuc e) F) tt)
    none (suc k) F h = go k (2 ^ suc e) (nltb→le 0 (suc k * 1 * 1 + 0 * 1 * 2 ^ suc e) (unfold lt in h))
      where
        go : (m d : ℕ) → suc m * 1 * 1 + 0 * 1 * d ≤ 0 → ⊥
        go m d h = omega arith

pub not-below : (x : Float) → T (lt x null) → T (not (lt (neg x) null))
unfolding lt neg
not-below nan h = absurd h
not-below (inf true) h = tt
not-below (inf false) h = absurd h
not-below (fin false m e) h = absurd (none-under (m * up e * 1) (down e) (ltb→lt (m * up e * 1) (0 * 1 * down e) h))
not-below (fin true m e) h = lib.Arith.le→nltb (m * up e * 1) (0 * 1 * down e) (go (m * up e * 1) (down e))
  where
    go : (a d : ℕ) → 0 * 1 * d ≤ a
    go a d = omega arith
