-- Bounds of rounded arithmetic. `UpTo x a c` says that x is a number from +0 to a / c, and `AtMost x a c` that it is this, a NaN or negative: what a cast to an unsigned integer takes to a / c at most.
-- A sum, a product or a quotient of bounded values is bounded by what bounds the rounded sum, product or quotient of the bounds. Assumes nothing.
use mathlib.Core.Path.{◌≡◌, refl, sym, ap, ◌∙◌, subst}
use mathlib.Core.Bool.{Bool, true, false, not, ◌&&◌, ◌||◌, cond, true≢false, false≢true}
use Prim.Native.Nat.{ℕ, zero, suc, ◌+◌, ◌-◌, ◌*◌, ◌/◌, ◌^◌, ◌≤◌, ◌<◌, min, zero-le}
use native.Mathlib.Nat.{le_trans, le_of_eq, le_of_lt, lt_irrefl, sub-le, add-le-add, add-mul, mul_comm, mul_assoc, mul_left_comm, mul-pos, mul-le-mul, mul-le-mul_right, mul-mul-mul_comm}
use native.Mathlib.Omega.{arith}
use lib.IntN.{pos}
use lib.Dec.{T, ltb, eqb, ltb→lt, nltb→le, eqb→eq, not_T}
use lib.Ieee.{Float, nan, inf, fin, Format, prec, emax, low, up, down, is_nan, lt, eq, le, odd, units, round, sum, add, mul, div, of_int, to_unsigned}
use lib.Ieee.Fits.{up_pos, down_pos, round_is}
use lib.Ieee.Exact.{HasValue}
use lib.Ieee.Nearest.{div_mono}
use lib.Ieee.Order.{round_mono}
use lib.Ieee.Positive.{through, positive_of_value}
use Rattle.float.specs.Order.{negative, min_of, clamp_of}
use Rattle.float.proofs.Order.{lt-asym}
use Rattle.ieee.proofs.Tests.{yes, no, cond_no}
use Rattle.ieee.proofs.Value.{whole-value}

abbrev pub UpTo : Float → ℕ → ℕ → Type 0
UpTo nan a c = ⊥
UpTo (inf s) a c = ⊥
UpTo (fin true m e) a c = ⊥
UpTo (fin false m e) a c = m * up e * c ≤ a * down e

abbrev pub AtMost : Float → ℕ → ℕ → Type 0
AtMost nan a c = Unit
AtMost (inf s) a c = T s
AtMost (fin true m e) a c = Unit
AtMost (fin false m e) a c = m * up e * c ≤ a * down e

-- ---- where bounds come from
pub up-to-at-most : (x : Float) (a c : ℕ) → UpTo x a c → AtMost x a c
up-to-at-most nan a c u = absurd u
up-to-at-most (inf s) a c u = absurd u
up-to-at-most (fin true m e) a c u = absurd u
up-to-at-most (fin false m e) a c u = u

pub negative-at-most : (x : Float) (a c : ℕ) → negative x ≡ true → AtMost x a c
unfolding negative
negative-at-most nan a c s = tt
negative-at-most (inf true) a c s = tt
negative-at-most (inf false) a c s = absurd (false≢true s)
negative-at-most (fin true m e) a c s = tt
negative-at-most (fin false m e) a c s = absurd (false≢true s)

-- a whole number that is exact
pub whole-up-to : (f : Format) (n N : ℕ) → n ≤ N → n ≤ 2 ^ prec f → UpTo (of_int f (pos n)) N 1
whole-up-to f n N h k = go (of_int f (pos n)) (whole-value f n k)
  where
    go : (x : Float) → HasValue x false n 1 → UpTo x N 1
    go nan v = absurd v
    go (inf s) v = absurd v
    go (fin true m e) v = absurd (true≢false v.0)
    go (fin false m e) v = le_trans (le_of_eq v.1) (mul-le-mul_right (down e) h)

-- what is not above y, a NaN included
pub not-above : (x y : Float) (a c : ℕ) → UpTo y a c → T (not (lt y x)) → AtMost x a c
unfolding lt
not-above x nan a c u h = absurd u
not-above x (inf s) a c u h = absurd u
not-above x (fin true n g) a c u h = absurd u
not-above nan (fin false n g) a c u h = tt
not-above (inf true) (fin false n g) a c u h = tt
not-above (inf false) (fin false n g) a c u h = absurd h
not-above (fin true m e) (fin false n g) a c u h = tt
not-above (fin false m e) (fin false n g) a c u h =
    through (m * up e) (n * up g) a (down e) (down g) c (down_pos g) (nltb→le (n * up g * down e) (m * up e * down g) h) u

pub min-at-most : (x y : Float) (a c : ℕ) → UpTo y a c → AtMost (min_of x y) a c
min-at-most x y a c u = unfold min_of in go (is_nan x) (is_nan y) (lt x y) (lt y x) (negative x) (number y u) refl refl
  where
    number : (y : Float) → UpTo y a c → is_nan y ≡ false
    number nan u = absurd u
    number (inf t) u = absurd u
    number (fin t n g) u = unfold is_nan in refl

    go : (p n q r s : Bool) → n ≡ false → lt x y ≡ q → lt y x ≡ r → AtMost (cond p y (cond n x (cond q x (cond r y (cond s x y))))) a c
    go true n q r s o e h = up-to-at-most y a c u
    go false true q r s o e h = absurd (true≢false o)
    go false false true r s o e h = not-above x y a c u (no (lt-asym x y (yes e)))
    go false false false true s o e h = up-to-at-most y a c u
    go false false false false true o e h = not-above x y a c u (no h)
    go false false false false false o e h = up-to-at-most y a c u

pub clamp-at-most : (x lo hi : Float) (a c : ℕ) → UpTo lo a c → UpTo hi a c → AtMost (clamp_of x lo hi) a c
unfolding clamp_of
clamp-at-most x lo hi a c u v = go (lt x lo) (lt hi x) refl
  where
    go : (p q : Bool) → lt hi x ≡ q → AtMost (cond p lo (cond q hi x)) a c
    go true q e = up-to-at-most lo a c u
    go false true e = up-to-at-most hi a c v
    go false false e = not-above x hi a c v (no e)

-- ---- rounding
units-sign : (f : Format) (s : Bool) (q k : ℕ) → negative (units f s q k) ≡ s
unfolding units odd negative
units-sign f s q k = pick q (ltb (q * 2 ^ k) (2 ^ (low f + suc (emax f))))
  where
    pick : (q : ℕ) (b : Bool) → negative (cond b (odd (suc (prec f)) s q k (low f)) (inf s)) ≡ s
    pick zero true = refl
    pick (suc q) true = refl
    pick q false = refl

round-sign : (f : Format) (s : Bool) (a c : ℕ) → negative (round f s a c) ≡ s
round-sign f s a c = ap negative (round_is f s a c) ∙ units-sign f s _ _

le-of-tests : (a b : ℕ) → T (ltb a b || (eqb a b && true)) → a ≤ b
le-of-tests a b h = go (ltb a b) (eqb a b) (ltb→lt a b) (eqb→eq a b) h
  where
    go : (p q : Bool) → (T p → a < b) → (T q → a ≡ b) → T (p || (q && true)) → a ≤ b
    go true q l e h = le_of_lt (l tt)
    go false true l e h = le_of_eq (e tt)
    go false false l e h = absurd h

le-up-to : (x y : Float) (a c : ℕ) → negative x ≡ false → T (le x y) → UpTo y a c → UpTo x a c
unfolding le lt eq negative
le-up-to x nan a c s h u = absurd u
le-up-to x (inf t) a c s h u = absurd u
le-up-to x (fin true n g) a c s h u = absurd u
le-up-to nan (fin false n g) a c s h u = absurd h
le-up-to (inf true) (fin false n g) a c s h u = absurd (true≢false s)
le-up-to (inf false) (fin false n g) a c s h u = absurd h
le-up-to (fin true m e) (fin false n g) a c s h u = absurd (true≢false s)
le-up-to (fin false m e) (fin false n g) a c s h u =
    through (m * up e) (n * up g) a (down e) (down g) c (down_pos g) (le-of-tests (m * up e * down g) (n * up g * down e) h) u

-- p / q ≤ a / c, and the rounding of a / c is at most z / d
pub round-up-to : (f : Format) (p q a c z d : ℕ) → 0 < q → 0 < c → p * c ≤ a * q → UpTo (round f false a c) z d → UpTo (round f false p q) z d
round-up-to f p q a c z d Q C h u = le-up-to (round f false p q) (round f false a c) z d (round-sign f false p q) (round_mono f p q a c Q C h) u

-- ---- arithmetic
module _ (f : Format) (a c b k z d : ℕ) (C : 0 < c) (K : 0 < k) where
  pub mul-up-to : (x y : Float) → UpTo x a c → UpTo y b k → UpTo (round f false (a * b) (c * k)) z d → UpTo (mul f x y) z d
  unfolding mul
  mul-up-to nan y u v w = absurd u
  mul-up-to (inf s) y u v w = absurd u
  mul-up-to (fin true m e) y u v w = absurd u
  mul-up-to (fin false m e) nan u v w = absurd v
  mul-up-to (fin false m e) (inf t) u v w = absurd v
  mul-up-to (fin false m e) (fin true n g) u v w = absurd v
  mul-up-to (fin false m e) (fin false n g) u v w =
      round-up-to f (m * up e * (n * up g)) (down e * down g) (a * b) (c * k) z d (mul-pos (down_pos e) (down_pos g)) (mul-pos C K)
      (le_trans (le_of_eq (mul-mul-mul_comm (m * up e) (n * up g) c k)) (le_trans (mul-le-mul u v) (le_of_eq (mul-mul-mul_comm a (down e) b (down g)))))
      w

  pub mul-at-most : (x y : Float) → AtMost x a c → UpTo y b k → UpTo (round f false (a * b) (c * k)) z d → AtMost (mul f x y) z d
  mul-at-most x nan u v w = absurd v
  mul-at-most x (inf t) u v w = absurd v
  mul-at-most x (fin true n g) u v w = absurd v
  mul-at-most nan (fin false n g) u v w = unfold mul in tt
  mul-at-most (inf true) (fin false n g) u v w = unfold mul in pick (eqb n 0)
    where
      pick : (b : Bool) → AtMost (cond b nan (inf true)) z d
      pick true = tt
      pick false = tt
  mul-at-most (inf false) (fin false n g) u v w = absurd u
  mul-at-most (fin true m e) (fin false n g) u v w =
      unfold mul in negative-at-most (round f true (m * up e * (n * up g)) (down e * down g)) z d (round-sign f true (m * up e * (n * up g)) (down e * down g))
  mul-at-most (fin false m e) (fin false n g) u v w = up-to-at-most (mul f (fin false m e) (fin false n g)) z d (mul-up-to (fin false m e) (fin false n g) u v w)

-- x / d ≤ a / c over a common denominator
widen : (x a c d k g : ℕ) → x * c ≤ a * d → x * g * (c * k) ≤ a * k * (d * g)
widen x a c d k g h =
    le_trans (le_of_eq (mul-mul-mul_comm x g c k))
    (le_trans (mul-le-mul_right (g * k) h)
    (le_of_eq (ap (λ (t : ℕ). a * d * t) (mul_comm g k) ∙ mul-mul-mul_comm a d k g)))

module _ (f : Format) (a c b k z d : ℕ) (C : 0 < c) (K : 0 < k) where
  pub add-at-most : (x y : Float) → UpTo x a c → AtMost y b k → UpTo (round f false (a * k + b * c) (c * k)) z d → AtMost (add f x y) z d
  add-at-most nan y u v w = absurd u
  add-at-most (inf s) y u v w = absurd u
  add-at-most (fin true m e) y u v w = absurd u
  add-at-most (fin false m e) nan u v w = unfold add in tt
  add-at-most (fin false m e) (inf t) u v w = unfold add in v
  add-at-most (fin false m e) (fin true n g) u v w =
      unfold add sum in less (m * up e * down g) (n * up g * down e) (down e * down g) (mul-pos (down_pos e) (down_pos g)) (widen (m * up e) a c (down e) k (down g) u)
    where
      more : (i j : ℕ) → i ≤ i + j
      more i j = omega arith

      less : (p q r : ℕ) → 0 < r → p * (c * k) ≤ a * k * r → AtMost (cond (ltb p q) (round f true (q - p) r) (round f false (p - q) r)) z d
      less p q r R l = pick (ltb p q)
        where
          pick : (t : Bool) → AtMost (cond t (round f true (q - p) r) (round f false (p - q) r)) z d
          pick true = negative-at-most (round f true (q - p) r) z d (round-sign f true (q - p) r)
          pick false =
              up-to-at-most (round f false (p - q) r) z d
              (round-up-to f (p - q) r (a * k + b * c) (c * k) z d R (mul-pos C K)
              (le_trans (mul-le-mul_right (c * k) (sub-le p q)) (le_trans l (mul-le-mul_right r (more (a * k) (b * c)))))
              w)
  add-at-most (fin false m e) (fin false n g) u v w =
      unfold add sum in
      up-to-at-most (round f false (m * up e * down g + n * up g * down e) (down e * down g)) z d
      (round-up-to f (m * up e * down g + n * up g * down e) (down e * down g) (a * k + b * c) (c * k) z d (mul-pos (down_pos e) (down_pos g)) (mul-pos C K)
      (le_trans (le_of_eq (add-mul (m * up e * down g) (n * up g * down e) (c * k)))
      (le_trans (add-le-add (widen (m * up e) a c (down e) k (down g) u) right)
      (le_of_eq (sym (add-mul (a * k) (b * c) (down e * down g))))))
      w)
    where
      right : n * up g * down e * (c * k) ≤ b * c * (down e * down g)
      right = rw (mul_comm c k, mul_comm (down e) (down g)) (widen (n * up g) b k (down g) c (down e) v)

  -- by a number above zero
  pub div-up-to : (x y : Float) → 0 < b → UpTo x a c → HasValue y false b k → UpTo (round f false (a * k) (c * b)) z d → UpTo (div f x y) z d
  unfolding div
  div-up-to nan y B u v w = absurd u
  div-up-to (inf s) y B u v w = absurd u
  div-up-to (fin true m e) y B u v w = absurd u
  div-up-to (fin false m e) nan B u v w = absurd v
  div-up-to (fin false m e) (inf t) B u v w = absurd v
  div-up-to (fin false m e) (fin true n g) B u v w = absurd (true≢false v.0)
  div-up-to (fin false m e) (fin false n g) B u v w =
      let N : 0 < n = ltb→lt 0 n (positive_of_value (fin false n g) b k v B) in
      subst (λ (x : Float). UpTo x z d) (sym (cond_no (eqb n 0) _ _ (not_T (eqb n 0) (λ t. lt_irrefl 0 (subst (λ (i : ℕ). 0 < i) (eqb→eq n 0 t) N)))))
      (round-up-to f (m * up e * down g) (n * up g * down e) (a * k) (c * b) z d (mul-pos (mul-pos N (up_pos g)) (down_pos e)) (mul-pos C B)
      (le_trans (widen (m * up e) a c (down e) b (down g) u) (le_of_eq (mul-mul-mul_comm a b (down e) (down g) ∙ ap (λ (t : ℕ). a * down e * t) (sym v.1) ∙ turn (down e) (n * up g))))
      w)
    where
      turn : (i j : ℕ) → a * i * (j * k) ≡ a * k * (j * i)
      turn i j = simp (mul_assoc, mul_comm, mul_left_comm)

-- ---- the cast
pub cast-le : (w : ℕ) (x : Float) (a c : ℕ) → 0 < c → AtMost x a c → to_unsigned w x ≤ a / c
unfolding to_unsigned
cast-le w nan a c C u = zero-le
cast-le w (inf true) a c C u = zero-le
cast-le w (inf false) a c C u = absurd u
cast-le w (fin true m e) a c C u = zero-le
cast-le w (fin false m e) a c C u = le_trans (least (m * up e / down e) (2 ^ w - 1)) (div_mono (m * up e) (down e) a c (down_pos e) C u)
  where
    least : (i j : ℕ) → min i j ≤ i
    least i j = omega arith
