-- The whole part of a float: where the C-like cast is asked for within its range, and where Rust's saturates.
use Rattle.std.proofs.Common.{◌≡◌, ℕ, ◌+◌, ◌-◌, ◌*◌, ◌/◌, ◌^◌, ◌<◌, ◌≤◌, min, Bool, true, false, not, ◌&&◌, ◌||◌, T, eqb, ltb, ◌⊎◌, ℤ, sym, refl, ap, ◌∙◌, subst, inl, inr, le_of_eq, lt_of_lt_of_le, le_of_lt, mul-le-mul_right, zero-lt-suc, div-lt_iff_lt-mul, mul-pos, one-mul, le-div_iff_mul-le, mul-one, arith, eqb→eq, ltb→lt, lt→ltb, nltb→le, T_not, pow_pos, pow_mono}
use native.Mathlib.Nat.{div-eq_of_lt}
use lib.Ieee.{Float, nan, inf, fin, up, down, lt, le, eq, neg, to_unsigned, to_signed}
use lib.Ieee.Fits.{up_pos, down_pos, and_l, and_r}
use lib.Ieee.Positive.{num, den}
use Rattle.ieee.proofs.Tests.{null, two_to, minus_one}

clean : (n p d : ℕ) → n * 1 < 1 * p * d → n < p * d
clean n p d h = subst (λ (k : ℕ). n < k * d) (one-mul p) (subst (λ (k : ℕ). k < 1 * p * d) (mul-one n) h)

dirty : (n p d : ℕ) → n < p * d → n * 1 < 1 * p * d
dirty n p d h = subst (λ (k : ℕ). k < 1 * p * d) (sym (mul-one n)) (subst (λ (k : ℕ). n < k * d) (sym (one-mul p)) h)

some : (d n : ℕ) → 0 < d → 0 < 1 * 1 * d + n * 1
some d n h = omega arith

-- what `std::num::truncating_` asks of a float between 0 and 2 ^ w
pub asked : (w : ℕ) (x : Float) → w ≤ 64 → T (lt null x) → T (lt x (two_to w)) → T (lt minus_one x) × T (lt x (two_to 64))
unfolding lt
asked w nan l a b = absurd a
asked w (inf true) l a b = absurd a
asked w (inf false) l a b = absurd b
asked w (fin true m e) l a b = absurd a
asked w (fin false m e) l a b = (
  lt→ltb 0 (1 * 1 * down e + m * up e * 1) (some (down e) (m * up e) (down_pos e)),
  lt→ltb (m * up e * 1) (1 * 2 ^ 64 * down e) (dirty (m * up e) (2 ^ 64) (down e) (lt_of_lt_of_le (clean (m * up e) (2 ^ w) (down e) (ltb→lt (m * up e * 1) (1 * 2 ^ w * down e) b)) (mul-le-mul_right (down e) (pow_mono l)))),
)

uncapped : (a c : ℕ) → a < c → min a (c - 1) ≡ a
uncapped a c h = omega arith

-- the whole part of x is below 2 ^ w, and is not capped
pub part : (w : ℕ) (x : Float) → w ≤ 64 → T (lt null x) → T (lt x (two_to w)) → (to_unsigned 64 x ≡ num x / den x) × (num x / den x < 2 ^ w)
unfolding lt to_unsigned
part w nan l a b = absurd a
part w (inf true) l a b = absurd a
part w (inf false) l a b = absurd b
part w (fin true m e) l a b = absurd a
part w (fin false m e) l a b =
    let h : m * up e / down e < 2 ^ w = (div-lt_iff_lt-mul (down_pos e)).1 (clean (m * up e) (2 ^ w) (down e) (ltb→lt (m * up e * 1) (1 * 2 ^ w * down e) b)) in
    (uncapped (m * up e / down e) (2 ^ 64) (lt_of_lt_of_le h (pow_mono l)), h)

-- ---- the saturating cast
or-false : (p q : Bool) → T (not (p || q)) → T (not p) × T (not q)
or-false true q h = absurd h
or-false false true h = absurd h
or-false false false h = (tt, tt)

either : (p q : Bool) → T (p || q) → T p ⊎ T q
either true q h = inl tt
either false true h = inr tt
either false false h = absurd h

le-of-tests : (a b : ℕ) (r : Bool) → T (ltb a b || (eqb a b && r)) → a ≤ b
le-of-tests a b r h = go (either (ltb a b) (eqb a b && r) h)
  where
    go : T (ltb a b) ⊎ T (eqb a b && r) → a ≤ b
    go (inl t) = le_of_lt (ltb→lt a b t)
    go (inr t) = le_of_eq (eqb→eq a b (and_l (eqb a b) r t))

capped : (a c : ℕ) → c ≤ a → min a (c - 1) ≡ c - 1
capped a c h = omega arith

-- 2 ^ w or more
whole-ge : (w m : ℕ) (e : ℤ) → T (le (two_to w) (fin false m e)) → 2 ^ w ≤ m * up e / down e
unfolding le lt eq
whole-ge w m e h =
    (le-div_iff_mul-le (down_pos e)).1
    (subst (λ (z : ℕ). z * down e ≤ m * up e) (one-mul (2 ^ w)) (subst (λ (z : ℕ). 1 * 2 ^ w * down e ≤ z) (mul-one (m * up e)) (le-of-tests (1 * 2 ^ w * down e) (m * up e * 1) true h)))

not_negative : (w m : ℕ) (e : ℤ) → T (le (two_to w) (fin true m e)) → ⊥
unfolding le lt eq
not_negative w m e h = go (1 * 2 ^ w * down e) (mul-pos (mul-pos (zero-lt-suc 0) (pow_pos w)) (down_pos e)) (eqb→eq (1 * 2 ^ w * down e) 0 (and_r (eqb (1 * 2 ^ w * down e) (m * up e * 1)) (eqb (1 * 2 ^ w * down e) 0) h))
  where
    go : (a : ℕ) → 0 < a → a ≡ 0 → ⊥
    go a h e = omega arith

pub sat-top : (w : ℕ) (x : Float) → T (le (two_to w) x) → 2 ^ w - 1 ≡ to_unsigned w x
unfolding le lt eq to_unsigned
sat-top w nan h = absurd h
sat-top w (inf true) h = absurd h
sat-top w (inf false) h = refl
sat-top w (fin true m e) h = absurd (not_negative w m e h)
sat-top w (fin false m e) h = sym (capped (m * up e / down e) (2 ^ w) (whole-ge w m e h))

-- neither 2 ^ w or more nor a NaN: below it
pub not-le : (w : ℕ) (x : Float) → T (not (le (two_to w) x)) → T (eq x x) → T (lt x (two_to w))
unfolding le lt eq
not-le w nan h n = absurd n
not-le w (inf true) h n = tt
not-le w (inf false) h n = absurd h
not-le w (fin true m e) h n = lt→ltb 0 (m * up e * 1 + 1 * 2 ^ w * down e) (go (m * up e * 1) (1 * 2 ^ w * down e) (mul-pos (mul-pos (zero-lt-suc 0) (pow_pos w)) (down_pos e)))
  where
    go : (a b : ℕ) → 0 < b → 0 < a + b
    go a b h = omega arith
not-le w (fin false m e) h n =
    lt→ltb (m * up e * 1) (1 * 2 ^ w * down e) (turn (1 * 2 ^ w * down e) (m * up e * 1) (or-false (ltb (1 * 2 ^ w * down e) (m * up e * 1)) (eqb (1 * 2 ^ w * down e) (m * up e * 1) && true) h))
  where
    not-and : (b : Bool) → T (not (b && true)) → T (not b)
    not-and true h = h
    not-and false h = tt

    turn : (a b : ℕ) → T (not (ltb a b)) × T (not (eqb a b && true)) → b < a
    turn a b h = go (nltb→le a b h.0) (λ (e : a ≡ b). T_not (eqb a b) (not-and (eqb a b) h.1) (lib.Ieee.Fits.eq→eqb e))
      where
        go : b ≤ a → (a ≡ b → ⊥) → b < a
        go p q = omega arith

pub above-number : (x : Float) → T (lt null x) → T (eq x x)
unfolding lt eq
above-number nan h = absurd h
above-number (inf true) h = absurd h
above-number (inf false) h = tt
above-number (fin true m e) h = absurd h
above-number (fin false m e) h = lib.Ieee.Fits.and_i (eqb (m * up e * down e) (m * up e * down e)) true (lib.Dec.eqb_refl (m * up e * down e)) tt

pub sat-zero : (w : ℕ) (x : Float) → T (not (lt null x)) → 0 ≡ to_unsigned w x
unfolding lt to_unsigned
sat-zero w nan h = refl
sat-zero w (inf true) h = refl
sat-zero w (inf false) h = absurd h
sat-zero w (fin true m e) h = refl
sat-zero w (fin false m e) h =
    sym (ap (λ (k : ℕ). min k (2 ^ w - 1)) (div-eq_of_lt (go (m * up e) (down e) (down_pos e) (nltb→le (0 * 1 * down e) (m * up e * 1) h))) ∙ least (2 ^ w - 1))
  where
    go : (n d : ℕ) → 0 < d → n * 1 ≤ 0 * 1 * d → n < d
    go n d h g = omega arith

    least : (k : ℕ) → min 0 k ≡ 0
    least k = omega arith
