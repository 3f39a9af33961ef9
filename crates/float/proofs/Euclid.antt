-- The remainder within two periods of 0.
use mathlib.Core.Path.{◌≡◌, refl, sym, ap, ◌∙◌, subst}
use mathlib.Core.Bool.{Bool, true, false, not, true≢false}
use Prim.Native.Nat.{ℕ, zero, suc, ◌+◌, ◌-◌, ◌*◌, ◌/◌, ◌%◌, ◌^◌, ◌≤◌, ◌<◌}
use native.Mathlib.Nat.{le_of_lt, le_trans, lt_of_le_of_lt, lt_irrefl, mul-pos, mul_comm, mul_right_comm, mul_assoc, mod-eq_of_lt, zero-mul, mul-one, one-mul, zero-lt-suc}
use native.Mathlib.Omega.{arith}
use lib.IntN.{ℤ}
use lib.Dec.{T, ltb, eqb, ltb→lt, nltb→le, eqb→eq, not_T}
use lib.Arith.{le→nltb}
use lib.Ieee.{Float, nan, inf, fin, Format, prec, emax, low, up, down, fits, neg, lt, le, round, units, odd, sum, add, sub, rem}
use lib.Ieee.Fits.{down_pos, round_is}
use lib.Ieee.Exact.{HasValue, odd_sign}
use lib.Ieee.Order.{round_mono}
use Rattle.ieee.proofs.Tests.{null, yes, no, is_true, is_false, cond_no}
use Rattle.ieee.proofs.Value.{value-self}
use Rattle.ieee.proofs.Read.{nothing-below}
use Rattle.float.specs.Order.{abs_of}
use Rattle.float.specs.Euclid.{rem_euclid_of}
use Rattle.float.proofs.Order.{lt-asym, le-no-lt}

-- ---- sizes on a common denominator
pub pos-first : (n u d : ℕ) → 0 < n * u * d → T (not (eqb n 0))
pos-first zero u d h = absurd (lt_irrefl 0 (subst (λ (z : ℕ). 0 < z) (ap (λ (z : ℕ). z * d) (zero-mul u) ∙ zero-mul d) h))
pos-first (suc n) u d h = not_T (eqb (suc n) 0) (λ t. none n (eqb→eq (suc n) 0 t))
  where
    none : (n : ℕ) → suc n ≡ 0 → ⊥
    none n e = omega arith

-- |x| < |y|: nothing is taken away
pub rem-under : (f : Format) (s t : Bool) (m n : ℕ) (e d : ℤ) → T (fits f (fin s m e)) → m * up e * down d < n * up d * down e → rem f (fin s m e) (fin t n d) ≡ fin s m e
unfolding rem
rem-under f s t m n e d F h =
    cond_no (eqb n 0) nan (round f s (m * up e * down d % (n * up d * down e)) (down e * down d)) (pos-first n (up d) (down e) (lt_of_le_of_lt Prim.Native.Nat.zero-le h))
    ∙ ap (λ (z : ℕ). round f s z (down e * down d)) (mod-eq_of_lt h)
    ∙ value-self f (fin s m e) s (m * up e * down d) (down e * down d) (mul-pos (down_pos e) (down_pos d)) F (refl, sym (mul_right_comm (m * up e) (down d) (down e) ∙ mul_assoc (m * up e) (down e) (down d)))

-- |y| ≤ |x| < 2 |y|
rem-once : (a b : ℕ) → b ≤ a → a < b + b → a % b ≡ a - b
rem-once a b h g =
    ap (λ (z : ℕ). z % b) (sym (native.Mathlib.Nat.sub-add_cancel h) ∙ ap (λ (z : ℕ). a - b + z) (sym (one-mul b)))
    ∙ native.Mathlib.Nat.add-mul-mod_self_right (a - b) 1 b
    ∙ mod-eq_of_lt (go a b h g)
  where
    go : (a b : ℕ) → b ≤ a → a < b + b → a - b < b
    go a b h g = omega arith

-- ---- what is rounded with the sign + is not below zero
no-below : (f : Format) (a c : ℕ) → T (not (lt (round f false a c) null))
no-below f a c = subst (λ (z : Float). T (not (lt z null))) (sym (round_is f false a c)) (go _ _)
  where
    value : (x : Float) (a c : ℕ) → HasValue x false a c → T (not (lt x null))
    value nan a c v = absurd v
    value (inf s) a c v = absurd v
    value (fin true m e) a c v = absurd (true≢false v.0)
    value (fin false m e) a c v = unfold lt in le→nltb (m * up e * 1) (0 * 1 * down e) (least (m * up e * 1) (down e))
      where
        least : (a d : ℕ) → 0 * 1 * d ≤ a
        least a d = omega arith

    go : (q k : ℕ) → T (not (lt (units f false q k) null))
    go q k = elim-units (ltb (q * 2 ^ k) (2 ^ (low f + suc (emax f)))) refl
      where
        elim-units : (b : Bool) → ltb (q * 2 ^ k) (2 ^ (low f + suc (emax f))) ≡ b → T (not (lt (units f false q k) null))
        elim-units true e = subst (λ (z : Float). T (not (lt z null))) (sym (Rattle.ieee.proofs.Build.units-odd f q k (ltb→lt _ _ (yes e)))) (value (odd (suc (prec f)) false q k (low f)) (q * 2 ^ k) (2 ^ low f) (odd_sign (suc (prec f)) false q k (low f)))
        elim-units false e = subst (λ (z : Float). T (not (lt z null))) (sym (Rattle.ieee.proofs.Build.units-inf f q k (nltb→le _ _ (no e)))) (unfold lt in tt)

-- ---- the cases of `rem_euclid`
euclid-kept : (f : Format) (x y r : Float) → rem f x y ≡ r → T (not (lt r null)) → r ≡ rem_euclid_of f x y
unfolding rem_euclid_of
euclid-kept f x y r e h = sym (rw (e, is_false (lt r null) h))

-- 0 < x < y
pub first-turn : (f : Format) (x y : Float) → T (fits f x) → T (lt null x) → T (lt x y) → x ≡ rem_euclid_of f x y
first-turn f x y F P h = euclid-kept f x y x (go x y F P h) (subst (λ (b : Bool). T (not b)) (sym (lt-asym null x P)) tt)
  where
    go : (x y : Float) → T (fits f x) → T (lt null x) → T (lt x y) → rem f x y ≡ x
    go nan y F P h = unfold lt in absurd P
    go (inf true) y F P h = unfold lt in absurd P
    go (inf false) nan F P h = unfold lt in absurd h
    go (inf false) (inf t) F P h = unfold lt in absurd h
    go (inf false) (fin t n d) F P h = unfold lt in absurd h
    go (fin true m e) y F P h = unfold lt in absurd P
    go (fin false m e) nan F P h = unfold lt in absurd h
    go (fin false m e) (inf t) F P h = unfold rem in refl
    go (fin false m e) (fin true n d) F P h = unfold lt in absurd h
    go (fin false m e) (fin false n d) F P h = rem-under f false false m n e d F (ltb→lt (m * up e * down d) (n * up d * down e) (unfold lt in h))

module _ (f : Format) (m k : ℕ) (e d : ℤ) where
  sub_parts : k * up d * down e ≤ m * up e * down d → sub f (fin false m e) (fin false k d) ≡ round f false (m * up e * down d - k * up d * down e) (down e * down d)
  unfolding sub neg add sum
  sub_parts h =
      let a = m * up e * down d in
      let b = k * up d * down e in
      cond_no (ltb a b) (round f true (b - a) (down e * down d)) (round f false (a - b) (down e * down d)) (le→nltb a b h)

  rem_parts : k * up d * down e ≤ m * up e * down d → m * up e * down d < k * up d * down e + k * up d * down e → rem f (fin false m e) (fin false k d) ≡ round f false (m * up e * down d - k * up d * down e) (down e * down d)
  unfolding rem
  rem_parts h g =
      let a = m * up e * down d in
      let b = k * up d * down e in
      cond_no (eqb k 0) nan (round f false (a % b) (down e * down d)) (pos-first k (up d) (down e) (some a b h g))
      ∙ ap (λ (z : ℕ). round f false z (down e * down d)) (rem-once a b h g)
    where
      some : (a b : ℕ) → b ≤ a → a < b + b → 0 < b
      some a b h g = omega arith

-- y ≤ x < 2 y
pub second-turn : (f : Format) (x y : Float) → T (fits f y) → T (lt null x) → T (not (lt x y)) → T (lt (sub f x y) y) → sub f x y ≡ rem_euclid_of f x y
second-turn f x y G P n h = go x y G P n h
  where
    pos-sign : (f : Format) (a c : ℕ) (n : ℕ) (d : ℤ) → T (lt (round f false a c) (fin true n d)) → ⊥
    pos-sign f a c n d t = below (round f false a c) (no-below f a c) t
      where
        below : (v : Float) → T (not (lt v null)) → T (lt v (fin true n d)) → ⊥
        below nan b t = unfold lt in t
        below (inf true) b t = unfold lt in b
        below (inf false) b t = unfold lt in t
        below (fin false m e) b t = unfold lt in t
        below (fin true m e) b t = clash (m * up e) (down e) (n * up d) (down d) (down_pos e) (nltb→le 0 (m * up e * 1 + 0 * 1 * down e) (unfold lt in b)) (ltb→lt (n * up d * down e) (m * up e * down d) (unfold lt in t))
          where
            clash : (a e' b d' : ℕ) → 0 < e' → a * 1 + 0 * 1 * e' ≤ 0 → b * e' < a * d' → ⊥
            clash a e' b d' p q r = none b e' d' (subst (λ (z : ℕ). b * e' < z * d') (zero a e' q) r)
              where
                zero : (a e' : ℕ) → a * 1 + 0 * 1 * e' ≤ 0 → a ≡ 0
                zero a e' q = omega arith

                none : (b e' d' : ℕ) → b * e' < 0 * d' → ⊥
                none b e' d' h = nope (b * e') (native.Mathlib.Nat.lt_of_lt_of_le h (native.Mathlib.Nat.le_of_eq (zero-mul d')))
                  where
                    nope : (k : ℕ) → k < 0 → ⊥
                    nope k h = omega arith

    go : (x y : Float) → T (fits f y) → T (lt null x) → T (not (lt x y)) → T (lt (sub f x y) y) → sub f x y ≡ rem_euclid_of f x y
    go nan y G P n h = unfold lt in absurd P
    go (inf true) y G P n h = unfold lt in absurd P
    go (inf false) nan G P n h = unfold lt sub neg add in absurd h
    go (inf false) (inf true) G P n h = unfold lt sub neg add in absurd h
    go (inf false) (inf false) G P n h = unfold lt sub neg add in absurd h
    go (inf false) (fin t k d) G P n h = unfold lt sub neg add in absurd h
    go (fin true m e) y G P n h = unfold lt in absurd P
    go (fin false m e) nan G P n h = unfold lt sub neg add in absurd h
    go (fin false m e) (inf true) G P n h = unfold lt sub neg add in absurd h
    go (fin false m e) (inf false) G P n h = unfold lt in absurd n
    go (fin false m e) (fin true k d) G P n h = absurd (pos-sign f (m * up e * down d + k * up d * down e) (down e * down d) k d (unfold sub neg add sum in h))
    go (fin false m e) (fin false k d) G P n h =
        let a = m * up e * down d in
        let b = k * up d * down e in
        let D = down e * down d in
        let B : b ≤ a = nltb→le a b (unfold lt in n) in
        let is : sub f (fin false m e) (fin false k d) ≡ round f false (a - b) D = sub_parts f m k e d B in
        let y : round f false b D ≡ fin false k d = value-self f (fin false k d) false b D (mul-pos (down_pos e) (down_pos d)) G (refl, sides (k * up d) (down e) (down d)) in
        let less : a < b + b = under (λ (q : b + b ≤ a). le-no-lt (fin false k d) (sub f (fin false m e) (fin false k d)) (subst (λ (z : Float). T (le z (sub f (fin false m e) (fin false k d)))) y (subst (λ (z : Float). T (le (round f false b D) z)) (sym is) (round_mono f b D (a - b) D (mul-pos (down_pos e) (down_pos d)) (mul-pos (down_pos e) (down_pos d)) (native.Mathlib.Nat.mul-le-mul_right D (part a b q))))) h) in
        is ∙ euclid-kept f (fin false m e) (fin false k d) (round f false (a - b) D) (rem_parts f m k e d B less) (no-below f (a - b) D)
      where
        sides : (u e d : ℕ) → u * (e * d) ≡ u * e * d
        sides u e d = sym (mul_assoc u e d)

        under : {a b : ℕ} → (b ≤ a → ⊥) → a < b
        under {a} {b} h = omega arith

        part : (a b : ℕ) → b + b ≤ a → b ≤ a - b
        part a b h = omega arith

        some : (a b : ℕ) → b ≤ a → a < b + b → 0 < b
        some a b h g = omega arith

-- -y < x < 0
pub turn-back : (f : Format) (x y : Float) → T (fits f x) → T (lt x null) → T (lt (neg y) x) → add f x y ≡ rem_euclid_of f x y
turn-back f x y F N h = go x y F N h
  where
    back : (x y : Float) → rem f x y ≡ x → abs_of y ≡ y → T (lt x null) → add f x y ≡ rem_euclid_of f x y
    back x y e a n = sym (unfold rem_euclid_of in rw (e, a, is_true (lt x null) n))

    go : (x y : Float) → T (fits f x) → T (lt x null) → T (lt (neg y) x) → add f x y ≡ rem_euclid_of f x y
    go nan y F N h = unfold lt in absurd N
    go (inf false) y F N h = unfold lt in absurd N
    go (inf true) nan F N h = unfold lt neg in absurd h
    go (inf true) (inf true) F N h = unfold lt neg in absurd h
    go (inf true) (inf false) F N h = unfold lt neg in absurd h
    go (inf true) (fin t n d) F N h = unfold lt neg in absurd h
    go (fin false m e) y F N h = absurd (nothing-below (m * up e * 1) (down e) (ltb→lt (m * up e * 1) (0 * 1 * down e) (unfold lt in N)))
    go (fin true m e) nan F N h = unfold lt neg in absurd h
    go (fin true m e) (inf true) F N h = unfold lt neg in absurd h
    go (fin true m e) (inf false) F N h = back (fin true m e) (inf false) (unfold rem in refl) (unfold abs_of in refl) N
    go (fin true m e) (fin true n d) F N h = unfold lt neg in absurd h
    go (fin true m e) (fin false n d) F N h =
        back (fin true m e) (fin false n d) (rem-under f true false m n e d F (ltb→lt (m * up e * down d) (n * up d * down e) (unfold lt neg in h))) (unfold abs_of in refl) N
