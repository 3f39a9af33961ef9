-- Twice the root of n * (2 G) ^ 2, an odd number where the root is not whole, is nearest to 4 G times the nearest root of n.
use Rattle.std.proofs.Common.{◌≡◌, ℕ, zero, suc, ◌+◌, ◌*◌, ◌/◌, ◌%◌, ◌^◌, ◌<◌, ◌≤◌, Bool, true, false, cond, eqb, sym, refl, ap, ◌∙◌, subst, inl, inr, le_trans, le_of_eq, lt_of_lt_of_le, lt_of_le_of_lt, mul-le-mul_right, mul-lt-mul_of_pos_right, mul-pos, div-add-mod', le_antisymm, lt_of_mul-lt-mul_right, suc-mul, add-mul, mul_assoc, le_of_lt, arith, lit≤, eqb→eq}
use Rattle.ieee.proofs.Tests.{yes}
use native.Mathlib.Nat.{mul-mul-mul_comm, mul_left_comm}
use lib.Ieee.{size, root_below, root_twice}
use lib.Ieee.Root.{whole_part}
use lib.Ieee.Nearest.{closest}
use Rattle.ieee.proofs.Whole.{Near, near}
use Rattle.sqrt.specs.Sqrt.{IsRoot}
use Rattle.sqrt.proofs.Squares.{sq-back, sq-next}

-- the whole number nearest to a / d, where no tie is near
only : (a d q : ℕ) → q * d * 2 < a * 2 + d → a * 2 < q * d * 2 + d → closest a d ≡ q
only a d q lo hi = le_antisymm (not-above (lt_of_mul-lt-mul_right d (up (near a d)))) (not-above (lt_of_mul-lt-mul_right d (down (near a d))))
  where
    c : ℕ
    c = closest a d

    parts : a / d * d + a % d ≡ a
    parts = div-add-mod' a d

    not-above : {x y : ℕ} → x < suc y → x ≤ y
    not-above {x} {y} h = omega arith

    up : Near a d c → c * d < suc q * d
    up (inl h) = let e : c * d ≡ a / d * d = ap (λ (z : ℕ). z * d) h.0 in omega (arith, parts, suc-mul q d)
    up (inr h) = let e : c * d ≡ suc (a / d) * d = ap (λ (z : ℕ). z * d) h.0 in omega (arith, parts, suc-mul q d, suc-mul (a / d) d, h.1)

    down : Near a d c → q * d < suc c * d
    down (inl h) = let e : c * d ≡ a / d * d = ap (λ (z : ℕ). z * d) h.0 in omega (arith, parts, suc-mul c d, h.1)
    down (inr h) = let e : c * d ≡ suc (a / d) * d = ap (λ (z : ℕ). z * d) h.0 in omega (arith, parts, suc-mul c d, suc-mul (a / d) d)

-- (2 t + 1) G squared
odd-square : (t G : ℕ) → (2 * t + 1) * G * ((2 * t + 1) * G) ≡ 4 * (t * t * (G * G)) + 4 * (t * (G * G)) + G * G
odd-square t G =
    mul-mul-mul_comm (2 * t + 1) G (2 * t + 1) G ∙ ap (λ (z : ℕ). z * (G * G)) (sq-next (2 * t) ∙ ap (λ (z : ℕ). z + 2 * (2 * t) + 1) (mul-mul-mul_comm 2 t 2 t)) ∙ spread (t * t) t (G * G)
  where
    spread : (a t g : ℕ) → (4 * a + 2 * (2 * t) + 1) * g ≡ 4 * (a * g) + 4 * (t * g) + g
    spread a t g = omega (arith, add-mul (4 * a + 2 * (2 * t)) 1 g, add-mul (4 * a) (2 * (2 * t)) g, mul_assoc 4 a g, mul_assoc 2 (2 * t) g, mul_assoc 2 t g)

whole-square : (n G : ℕ) → n * (2 * G * (2 * G)) ≡ 4 * (n * (G * G))
whole-square n G = ap (λ (z : ℕ). n * z) (mul-mul-mul_comm 2 G 2 G) ∙ mul_left_comm n 4 (G * G)

abbrev pub v : ℕ → ℕ → ℕ
v n G = n * (2 * G * (2 * G))

module _ (n G q : ℕ) (G0 : 0 < G) (is : IsRoot n q) where
  abbrev r : ℕ
  r = root_below (size (v n G)) (v n G)

  -- v n G lies between the squares of (2 q - 1) G and (2 q + 1) G
  high : (v n G) < (2 * q + 1) * G * ((2 * q + 1) * G)
  high = omega (arith, odd-square q G, whole-square n G, mul-pos G0 G0, mul-le-mul_right (G * G) is.0, add-mul (q * q) q (G * G))

  under : (p : ℕ) → q ≡ suc p → (2 * p + 1) * G * ((2 * p + 1) * G) < (v n G)
  under p e = go (subst (λ (z : ℕ). z * z < n + z) e (is.1 (subst (λ (z : ℕ). 1 ≤ z) (sym e) (native.Mathlib.Nat.zero-lt-suc p))))
    where
      more : suc p * suc p < n + suc p → p * p + p + 1 ≤ n
      more h = omega (arith, sq-next p, suc-mul p (suc p), native.Mathlib.Nat.mul-suc p p)

      go : suc p * suc p < n + suc p → (2 * p + 1) * G * ((2 * p + 1) * G) < (v n G)
      go h =
          omega
          (arith, odd-square p G, whole-square n G, mul-pos G0 G0, mul-le-mul_right (G * G) (more h), add-mul (p * p + p) 1 (G * G), add-mul (p * p) p (G * G))

  less : r < (2 * q + 1) * G
  less = sq-back r ((2 * q + 1) * G) (lt_of_le_of_lt (whole_part (v n G)).0 high)

  -- what twice the root ends in
  abbrev odd : ℕ
  odd = cond (eqb (r * r) (v n G)) 0 1

  most : (b : Bool) → cond b 0 1 ≤ 1
  most true = lit≤ tt
  most false = lit≤ tt

  above : (p : ℕ) → q ≡ suc p → (b : Bool) → eqb (r * r) (v n G) ≡ b → (2 * p + 1) * G * 2 < 2 * r + cond b 0 1
  above p e true h = twice (sq-back ((2 * p + 1) * G) r (lt_of_lt_of_le (under p e) (le_of_eq (sym (eqb→eq (r * r) (v n G) (yes h))))))
    where
      twice : (2 * p + 1) * G < r → (2 * p + 1) * G * 2 < 2 * r + 0
      twice l = omega arith
  above p e false h = twice (sq-back ((2 * p + 1) * G) (r + 1) (lt_of_lt_of_le (under p e) (le_of_lt (whole_part (v n G)).1)))
    where
      twice : (2 * p + 1) * G < r + 1 → (2 * p + 1) * G * 2 < 2 * r + 1
      twice l = omega arith

  lower : (p : ℕ) → q ≡ p → p * (4 * G) * 2 < (2 * r + odd) * 2 + 4 * G
  lower zero e = omega (arith, G0)
  lower (suc p) e = omega (arith, above p e (eqb (r * r) (v n G)) refl, mul_left_comm (suc p) 4 G, suc-mul p G, add-mul (2 * p) 1 G, mul_assoc 2 p G)

  upper : (2 * r + odd) * 2 < q * (4 * G) * 2 + 4 * G
  upper = omega (arith, less, most (eqb (r * r) (v n G)), mul_left_comm q 4 G, add-mul (2 * q) 1 G, mul_assoc 2 q G)

  pub nearest-twice : closest (root_twice (v n G)) (4 * G) ≡ q
  unfolding root_twice
  nearest-twice = only (2 * r + odd) (4 * G) q (lower q refl) upper

-- twice the root of n * (2 G) ^ 2, for an n of 47 or 48 digits, has as many digits as 2 ^ 23 * 4 G
module _ (n G : ℕ) (G0 : 0 < G) (lo : 2 ^ 46 ≤ n) (hi : n < 2 ^ 48) where
  abbrev root : ℕ
  root = root_below (size (v n G)) (v n G)

  square : (a : ℕ) → a * (2 * G) * (a * (2 * G)) ≡ a * a * (2 * G * (2 * G))
  square a = mul-mul-mul_comm a (2 * G) a (2 * G)

  G2 : 0 < 2 * G * (2 * G)
  G2 = mul-pos (twice G0) (twice G0)
    where
      twice : {a : ℕ} → 0 < a → 0 < 2 * a
      twice {a} h = omega arith

  root-ge : 2 ^ 23 * (2 * G) < root + 1
  root-ge = sq-back (2 ^ 23 * (2 * G)) (root + 1) (lt_of_le_of_lt (le_trans (le_of_eq (square (2 ^ 23))) (mul-le-mul_right (2 * G * (2 * G)) lo)) (whole_part (v n G)).1)

  root-lt : root < 2 ^ 24 * (2 * G)
  root-lt = sq-back root (2 ^ 24 * (2 * G)) (lt_of_le_of_lt (whole_part (v n G)).0 (lt_of_lt_of_le (mul-lt-mul_of_pos_right hi G2) (le_of_eq (sym (square (2 ^ 24))))))

  pub twice-ge : 2 ^ 23 * (4 * G) ≤ root_twice (v n G)
  unfolding root_twice
  twice-ge = omega (arith, root-ge)

  pub twice-lt : root_twice (v n G) < 2 ^ 24 * (4 * G)
  unfolding root_twice
  twice-lt = go (eqb (root * root) (v n G))
    where
      go : (b : Bool) → 2 * root + cond b 0 1 < 2 ^ 24 * (4 * G)
      go true = omega (arith, root-lt)
      go false = omega (arith, root-lt)
