-- Squares of whole numbers, and the whole root.
use Rattle.std.proofs.Common.{◌≡◌, ℕ, zero, suc, ◌+◌, ◌-◌, ◌*◌, ◌/◌, ◌^◌, ◌<◌, ◌≤◌, Bool, true, false, cond, not, T, leb, sym, refl, ap, ◌∙◌, subst, le_trans, le_of_eq, lt_of_lt_of_le, lt_of_le_of_lt, div-lt_iff_lt-mul, add-mul, mul-le-mul, le_antisymm, lt_of_not-le, mul-add, not-le_of_lt, arith, le→leb, leb→le, pow_pos}
use native.Mathlib.Nat.{mul-mul-mul_comm}
use lib.Dec.{nleb→lt}
use lib.Arith.{lt→nleb}
use Rattle.sqrt.specs.Sqrt.{root_by, nearest_root, IsRoot}
use Rattle.ieee.proofs.Build.{pw}

pub sq-mono : {a b : ℕ} → a ≤ b → a * a ≤ b * b
sq-mono h = mul-le-mul h h

pub sq-back : (a b : ℕ) → a * a < b * b → a < b
sq-back a b h = lt_of_not-le (λ (g : b ≤ a). not-le_of_lt h (sq-mono g))

pub sq-next : (a : ℕ) → (a + 1) * (a + 1) ≡ a * a + 2 * a + 1
sq-next a =
    let p : (a + 1) * (a + 1) ≡ (a + 1) * a + (a + 1) * 1 = mul-add (a + 1) a 1 in
    let q : (a + 1) * a ≡ a * a + 1 * a = add-mul a 1 a in
    omega arith

-- s is the root of n, as squares say
abbrev pub Root : ℕ → ℕ → Type 0
Root n s = (s * s ≤ n) × (n < (s + 1) * (s + 1))

below : (n s t : ℕ) → s * s ≤ n → n < (t + 1) * (t + 1) → s ≤ t
below n s t a b = go (sq-back s (t + 1) (lt_of_le_of_lt a b))
  where
    go : s < t + 1 → s ≤ t
    go h = omega arith

pub root-unique : (n s t : ℕ) → Root n s → Root n t → s ≡ t
root-unique n s t a b = le_antisymm (below n s t a.0 b.1) (below n t s b.0 a.1)

-- ---- `root_by` is the root

step-low : (t n : ℕ) → t * t ≤ n / 4 → 2 * t * (2 * t) ≤ n
step-low t n h = le_trans (le_of_eq (mul-mul-mul_comm 2 t 2 t)) (go (t * t) h)
  where
    go : (a : ℕ) → a ≤ n / 4 → 4 * a ≤ n
    go a h = omega arith

step-high : (t n : ℕ) → n / 4 < (t + 1) * (t + 1) → n < (2 * t + 1 + 1) * (2 * t + 1 + 1)
step-high t n h =
    let a : (t + 1) * (t + 1) ≡ t * t + 2 * t + 1 = sq-next t in
    let b : (2 * t + 1 + 1) * (2 * t + 1 + 1) ≡ (2 * t + 1) * (2 * t + 1) + 2 * (2 * t + 1) + 1 = sq-next (2 * t + 1) in
    let c : (2 * t + 1) * (2 * t + 1) ≡ 2 * t * (2 * t) + 2 * (2 * t) + 1 = sq-next (2 * t) in
    let d : 2 * t * (2 * t) ≡ 4 * (t * t) = mul-mul-mul_comm 2 t 2 t in
    omega arith

pub root_by-is : (d n : ℕ) → n < 2 ^ (2 * d) → Root n (root_by d n)
unfolding root_by
root_by-is zero n h = (go n h, h)
  where
    go : (n : ℕ) → n < 1 → 0 ≤ n
    go n h = omega arith
root_by-is (suc d) n h =
    let t = root_by d (n / 4) in
    let i : Root (n / 4) t = root_by-is d (n / 4) ((div-lt_iff_lt-mul {k = 4} {x = n} {y = 2 ^ (2 * d)} (pow_pos 2)).1 (lt_of_lt_of_le h (le_of_eq (sym (pw (2 * d) 2 (2 * suc d) (more d)))))) in
    go (leb ((2 * t + 1) * (2 * t + 1)) n) (leb→le ((2 * t + 1) * (2 * t + 1)) n) (nleb→lt ((2 * t + 1) * (2 * t + 1)) n) (step-low t n i.0) (step-high t n i.1)
  where
    more : (d : ℕ) → 2 * d + 2 ≡ 2 * suc d
    more d = omega arith

    go : (b : Bool) → (T b → (2 * root_by d (n / 4) + 1) * (2 * root_by d (n / 4) + 1) ≤ n) → (T (not b) → n < (2 * root_by d (n / 4) + 1) * (2 * root_by d (n / 4) + 1))
        → 2 * root_by d (n / 4) * (2 * root_by d (n / 4)) ≤ n → n < (2 * root_by d (n / 4) + 1 + 1) * (2 * root_by d (n / 4) + 1 + 1)
        → Root n (cond b (2 * root_by d (n / 4) + 1) (2 * root_by d (n / 4)))
    go true a c lo hi = (a tt, hi)
    go false a c lo hi = (lo, c tt)

-- ---- the nearest root, from the root
pub near_down : (n s : ℕ) → n < 2 ^ 48 → Root n s → n ≤ s * s + s → nearest_root n ≡ s
unfolding nearest_root
near_down n s h r l = ap (λ (t : ℕ). cond (leb n (t * t + t)) t (t + 1)) (root-unique n (root_by 24 n) s (root_by-is 24 n h) r) ∙ go (leb n (s * s + s)) (le→leb n (s * s + s) l)
  where
    go : (b : Bool) → T b → cond b s (s + 1) ≡ s
    go true t = refl
    go false t = absurd t

pub near_up : (n s : ℕ) → n < 2 ^ 48 → Root n s → s * s + s < n → nearest_root n ≡ s + 1
unfolding nearest_root
near_up n s h r l = ap (λ (t : ℕ). cond (leb n (t * t + t)) t (t + 1)) (root-unique n (root_by 24 n) s (root_by-is 24 n h) r) ∙ go (leb n (s * s + s)) (lt→nleb n (s * s + s) l)
  where
    go : (b : Bool) → T (not b) → cond b s (s + 1) ≡ s + 1
    go true t = absurd t
    go false t = refl

-- ---- what `nearest_root` means, and that nothing else does
pub near-is : (n : ℕ) → n < 2 ^ 48 → IsRoot n (nearest_root n)
near-is n h = go (leb n (s * s + s)) (leb→le n (s * s + s)) (nleb→lt n (s * s + s))
  where
    s : ℕ
    s = root_by 24 n

    r : Root n s
    r = root_by-is 24 n h

    plus : (a n s : ℕ) → a ≤ n → 1 ≤ s → a < n + s
    plus a n s l k = omega arith

    wide : (a b n q : ℕ) → a + b < n → q ≡ a + 2 * b + 1 → q < n + (b + 1)
    wide a b n q l e = omega arith

    more : (n q b : ℕ) → n < q → n ≤ q + (b + 1)
    more n q b l = omega arith

    go : (b : Bool) → (T b → n ≤ s * s + s) → (T (not b) → s * s + s < n) → IsRoot n (nearest_root n)
    go true a c = subst (IsRoot n) (sym (near_down n s h r (a tt))) (a tt, plus (s * s) n s r.0)
    go false a c = subst (IsRoot n) (sym (near_up n s h r (c tt))) (more n ((s + 1) * (s + 1)) s r.1, λ k. wide (s * s) s n ((s + 1) * (s + 1)) (c tt) (sq-next s))

pub near-one : (n p q : ℕ) → IsRoot n p → IsRoot n q → p ≡ q
near-one n p q a b = le_antisymm (half p q a b) (half q p b a)
  where
    clash : (n pp p qq q : ℕ) → n ≤ qq + q → pp < n + p → qq + 2 * q + 1 + (p - (q + 1)) ≤ pp → q + 1 ≤ p → ⊥
    clash n pp p qq q x y z w = omega arith

    spread : (q d : ℕ) → q * q + 2 * q + 1 + d ≤ (q + 1 + d) * (q + 1 + d)
    spread q d =
        let e : (q + 1 + d) * (q + 1 + d) ≡ (q + 1 + d) * (q + 1) + (q + 1 + d) * d = mul-add (q + 1 + d) (q + 1) d in
        let f : (q + 1 + d) * (q + 1) ≡ (q + 1) * (q + 1) + d * (q + 1) = add-mul (q + 1) d (q + 1) in
        let g : d * (q + 1) ≡ d * q + d * 1 = mul-add d q 1 in
        omega (arith, sq-next q)

    half : (p q : ℕ) → IsRoot n p → IsRoot n q → p ≤ q
    half p q a b = go (λ (l : q + 1 ≤ p). clash n (p * p) p (q * q) q b.0 (a.1 (least q p l)) (subst (λ (z : ℕ). q * q + 2 * q + 1 + (p - (q + 1)) ≤ z * z) (back q p l) (spread q (p - (q + 1)))) l)
      where
        go : (q + 1 ≤ p → ⊥) → p ≤ q
        go h = omega arith

        least : (q p : ℕ) → q + 1 ≤ p → 1 ≤ p
        least q p h = omega arith

        back : (q p : ℕ) → q + 1 ≤ p → q + 1 + (p - (q + 1)) ≡ p
        back q p h = omega arith
