-- Laws of size and order: NaN tests, absolute value, the larger and the smaller of two.
use mathlib.Core.Path.{◌≡◌, refl, sym, ap, ◌∙◌, subst}
use mathlib.Core.Logic.{◌⊎◌, inl, inr}
use mathlib.Core.Bool.{Bool, true, false, not, ◌||◌, cond, beq, true≢false}
use Prim.Native.Nat.{ℕ, zero, suc, ◌+◌, ◌*◌, ◌≤◌, ◌<◌}
use native.Mathlib.Nat.{le_of_eq, le_antisymm, one-mul, mul-pos, zero-lt-suc}
use native.Mathlib.Omega.{arith}
use lib.IntN.{ℤ, pos}
use lib.Dec.{T, ltb, eqb, ltb→lt, nltb→le, eqb→eq, T_not}
use lib.Arith.{le→nltb}
use lib.Ieee.{Float, nan, inf, fin, Format, binary32, prec, emax, low, up, down, fits, is_nan, neg, lt, eq, ne, le, round, units, odd, sum, add, sub, ones, hid, nan_bits, of_bits, to_bits}
use lib.Ieee.Fits.{up_pos, down_pos, and_i, and_l, and_r, round_is}
use Rattle.ieee.proofs.Tests.{null, yes, no, is_true, is_false}
use Rattle.ieee.proofs.Value.{round-self, same-value}
use Rattle.ieee.proofs.Read.{level}
use Rattle.std.specs.Float.{float_is_finite}
use Rattle.float.specs.Order.{abs_of, is_finite, negative, max_of, min_of}

-- ---- std's test is `is_finite`
pub finite-is : (x : Float) → float_is_finite x ≡ is_finite x
unfolding float_is_finite is_finite
finite-is nan = refl
finite-is (inf s) = refl
finite-is (fin s m e) = refl

-- ---- the size
pub abs-above : (x : Float) → T (lt null x) → x ≡ abs_of x
unfolding abs_of lt
abs-above nan h = absurd h
abs-above (inf true) h = absurd h
abs-above (inf false) h = refl
abs-above (fin true m e) h = absurd h
abs-above (fin false m e) h = refl

pub abs-else : (f : Format) (x : Float) → T (fits f x) → T (not (lt null x)) → sub f null x ≡ abs_of x
abs-else f nan F h = unfold abs_of sub neg add in refl
abs-else f (inf true) F h = unfold abs_of sub neg add in refl
abs-else f (inf false) F h = unfold lt in absurd h
abs-else f (fin true m e) F h =
    unfold abs_of sub neg add sum in
    (λ i. round f false (plain (down e) (m * up e) i) (one-mul (down e) i)) ∙ round-self f false m e (unfold neg in lib.Ieee.Fits.neg-fits f (fin true m e) F)
  where
    plain : (d n : ℕ) → 0 * 1 * d + n * 1 ≡ n
    plain d n = omega arith
abs-else f (fin false zero e) F h = subst (λ (g : ℤ). sub f null (fin false zero g) ≡ abs_of (fin false zero g)) (sym (Rattle.ieee.proofs.Value.zero_exp f false e F)) (nothing f)
  where
    nothing : (f : Format) → sub f null (fin false zero (pos 0)) ≡ abs_of (fin false zero (pos 0))
    nothing binary32 = unfold sub add neg sum round units abs_of in refl
    nothing lib.Ieee.binary64 = unfold sub add neg sum round units abs_of in refl
abs-else f (fin false (suc m) e) F h = absurd (go (suc m * up e) (down e) (mul-pos (zero-lt-suc m) (up_pos e)) (nltb→le (0 * 1 * down e) (suc m * up e * 1) (unfold lt in h)))
  where
    go : (a d : ℕ) → 0 < a → a * 1 ≤ 0 * 1 * d → ⊥
    go a d p h = omega arith

-- ---- order
pub lt-numbers : (x y : Float) → T (lt x y) → (is_nan x ≡ false) × (is_nan y ≡ false)
unfolding lt is_nan
lt-numbers nan y h = absurd h
lt-numbers (inf s) nan h = absurd h
lt-numbers (inf s) (inf t) h = (refl, refl)
lt-numbers (inf s) (fin t n d) h = (refl, refl)
lt-numbers (fin s m e) nan h = absurd h
lt-numbers (fin s m e) (inf t) h = (refl, refl)
lt-numbers (fin s m e) (fin t n d) h = (refl, refl)

le_of : {a b : ℕ} → a < b → a ≤ b
le_of {a} {b} h = omega arith

pub lt-asym : (x y : Float) → T (lt x y) → lt y x ≡ false
unfolding lt
lt-asym nan y h = absurd h
lt-asym (inf s) nan h = absurd h
lt-asym (inf true) (inf true) h = absurd h
lt-asym (inf true) (inf false) h = refl
lt-asym (inf false) (inf t) h = absurd h
lt-asym (inf true) (fin t n d) h = refl
lt-asym (inf false) (fin t n d) h = absurd h
lt-asym (fin s m e) nan h = absurd h
lt-asym (fin s m e) (inf true) h = absurd h
lt-asym (fin s m e) (inf false) h = refl
lt-asym (fin false m e) (fin false n d) h = is_false _ (le→nltb (n * up d * down e) (m * up e * down d) (le_of (ltb→lt (m * up e * down d) (n * up d * down e) h)))
lt-asym (fin false m e) (fin true n d) h = absurd h
lt-asym (fin true m e) (fin false n d) h = refl
lt-asym (fin true m e) (fin true n d) h = is_false _ (le→nltb (m * up e * down d) (n * up d * down e) (le_of (ltb→lt (n * up d * down e) (m * up e * down d) h)))

-- equal: not below
pub eq-no-lt : (x y : Float) → T (eq x y) → lt y x ≡ false
unfolding eq lt
eq-no-lt nan y h = absurd h
eq-no-lt (inf s) nan h = absurd h
eq-no-lt (inf true) (inf true) h = refl
eq-no-lt (inf true) (inf false) h = absurd h
eq-no-lt (inf false) (inf true) h = absurd h
eq-no-lt (inf false) (inf false) h = refl
eq-no-lt (inf s) (fin t n d) h = absurd h
eq-no-lt (fin s m e) nan h = absurd h
eq-no-lt (fin s m e) (inf t) h = absurd h
eq-no-lt (fin false m e) (fin false n d) h = is_false _ (le→nltb (n * up d * down e) (m * up e * down d) (le_of_eq (eqb→eq (m * up e * down d) (n * up d * down e) (and_l (eqb (m * up e * down d) (n * up d * down e)) true h))))
eq-no-lt (fin true m e) (fin true n d) h = is_false _ (le→nltb (m * up e * down d) (n * up d * down e) (le_of_eq (sym (eqb→eq (m * up e * down d) (n * up d * down e) (and_l (eqb (m * up e * down d) (n * up d * down e)) true h)))))
eq-no-lt (fin true m e) (fin false n d) h = refl
eq-no-lt (fin false m e) (fin true n d) h =
    let a = m * up e * down d in
    let b = n * up d * down e in
    is_false _ (le→nltb 0 (b + a) (le_of_eq (flat a b (eqb→eq a b (and_l (eqb a b) (eqb a 0) h)) (eqb→eq a 0 (and_r (eqb a b) (eqb a 0) h)))))
  where
    flat : (a b : ℕ) → a ≡ b → a ≡ 0 → b + a ≡ 0
    flat a b p q = omega arith

pub le-no-lt : (x y : Float) → T (le x y) → T (lt y x) → ⊥
unfolding le
le-no-lt x y h g = go (lt x y) (eq x y) (λ t. lt-asym x y t) (λ t. eq-no-lt x y t) h
  where
    clash : lt y x ≡ false → ⊥
    clash e = true≢false (sym (is_true (lt y x) g) ∙ e)

    go : (a b : Bool) → (T a → lt y x ≡ false) → (T b → lt y x ≡ false) → T (a || b) → ⊥
    go true b p q t = clash (p tt)
    go false true p q t = clash (q tt)
    go false false p q t = absurd t

-- a zero compares as +0
pub zero-lt : (s : Bool) (y : Float) → (lt (fin s 0 (pos 0)) y ≡ lt null y) × (lt y (fin s 0 (pos 0)) ≡ lt y null)
zero-lt false y = (refl, refl)
zero-lt true nan = (unfold lt in refl, unfold lt in refl)
zero-lt true (inf t) = (unfold lt in refl, unfold lt in refl)
zero-lt true (fin false n d) = unfold lt in (same, flat)
  where
    same : ltb 0 (0 * 1 * down d + n * up d * 1) ≡ ltb (0 * 1 * down d) (n * up d * 1)
    same = (λ i. ltb 0 (plus (0 * 1 * down d) (n * up d * 1) (none (down d)) i)) ∙ ap (λ (z : ℕ). ltb z (n * up d * 1)) (sym (none (down d)))
      where
        none : (d : ℕ) → 0 * 1 * d ≡ 0
        none d = omega arith

        plus : (a b : ℕ) → a ≡ 0 → a + b ≡ b
        plus a b e = omega arith

    flat : false ≡ ltb (n * up d * 1) (0 * 1 * down d)
    flat = sym (is_false _ (le→nltb (n * up d * 1) (0 * 1 * down d) (go (n * up d * 1) (down d))))
      where
        go : (a d : ℕ) → 0 * 1 * d ≤ a
        go a d = omega arith
zero-lt true (fin true n d) = unfold lt in (flat, same)
  where
    flat : ltb (n * up d * 1) (0 * 1 * down d) ≡ false
    flat = is_false _ (le→nltb (n * up d * 1) (0 * 1 * down d) (go (n * up d * 1) (down d)))
      where
        go : (a d : ℕ) → 0 * 1 * d ≤ a
        go a d = omega arith

    same : ltb (0 * 1 * down d) (n * up d * 1) ≡ ltb 0 (n * up d * 1 + 0 * 1 * down d)
    same = (λ i. ltb (none (down d) i) (n * up d * 1)) ∙ ap (λ (z : ℕ). ltb 0 z) (sym (plus (n * up d * 1) (0 * 1 * down d) (none (down d))))
      where
        none : (d : ℕ) → 0 * 1 * d ≡ 0
        none d = omega arith

        plus : (a b : ℕ) → b ≡ 0 → a + b ≡ a
        plus a b e = omega arith

-- ---- two numbers that are equal and not zero are the same
crossed : (f : Format) (s : Bool) (m : ℕ) (e : ℤ) (n : ℕ) (d : ℤ) → T (fits f (fin s m e)) → T (fits f (fin s n d)) → m * up e * down d ≡ n * up d * down e → fin s m e ≡ fin s n d
crossed f s m e n d F G h = same-value f (fin s m e) (fin s n d) s (m * up e) (down e) (down_pos e) F G (refl, refl) (refl, sym h)

zero_of : (a d : ℕ) → 0 < d → a * d ≤ 0 → a ≡ 0
zero_of zero d p h = refl
zero_of (suc a) d p h = absurd (go (suc a * d) (mul-pos (zero-lt-suc a) p) h)
  where
    go : (x : ℕ) → 0 < x → x ≤ 0 → ⊥
    go x p h = omega arith

null-eq : (s : Bool) (m : ℕ) (e : ℤ) → m * up e ≡ 0 → T (eq (fin s m e) null)
unfolding eq
null-eq s m e h = and_i (eqb (m * up e * 1) (0 * 1 * down e)) (beq s false || eqb (m * up e * 1) 0) (lib.Ieee.Fits.eq→eqb (flat (m * up e) (down e) h)) (right s (lib.Ieee.Fits.eq→eqb (flat' (m * up e) h)))
  where
    flat : (a d : ℕ) → a ≡ 0 → a * 1 ≡ 0 * 1 * d
    flat a d e = omega arith

    flat' : (a : ℕ) → a ≡ 0 → a * 1 ≡ 0
    flat' a e = omega arith

    right : (s : Bool) → T (eqb (m * up e * 1) 0) → T (beq s false || eqb (m * up e * 1) 0)
    right true t = t
    right false t = tt

first : (a b : ℕ) → a + b ≤ 0 → a ≤ 0
first a b h = omega arith

second : (a b : ℕ) → a + b ≤ 0 → b ≤ 0
second a b h = omega arith

pub same : (f : Format) (x y : Float) → T (fits f x) → T (fits f y) → is_nan x ≡ false → is_nan y ≡ false → T (not (lt x y)) → T (not (lt y x)) → T (not (eq x null)) → x ≡ y
same f nan y F G p q a b c = absurd (true≢false (unfold is_nan in p))
same f (inf s) nan F G p q a b c = absurd (true≢false (unfold is_nan in q))
same f (inf true) (inf true) F G p q a b c = refl
same f (inf true) (inf false) F G p q a b c = unfold lt in absurd a
same f (inf false) (inf true) F G p q a b c = unfold lt in absurd b
same f (inf false) (inf false) F G p q a b c = refl
same f (inf true) (fin t n d) F G p q a b c = unfold lt in absurd a
same f (inf false) (fin t n d) F G p q a b c = unfold lt in absurd b
same f (fin s m e) nan F G p q a b c = absurd (true≢false (unfold is_nan in q))
same f (fin s m e) (inf true) F G p q a b c = unfold lt in absurd b
same f (fin s m e) (inf false) F G p q a b c = unfold lt in absurd a
same f (fin false m e) (fin false n d) F G p q a b c =
    crossed f false m e n d F G (le_antisymm (nltb→le (n * up d * down e) (m * up e * down d) (unfold lt in b)) (nltb→le (m * up e * down d) (n * up d * down e) (unfold lt in a)))
same f (fin true m e) (fin true n d) F G p q a b c =
    crossed f true m e n d F G (le_antisymm (nltb→le (n * up d * down e) (m * up e * down d) (unfold lt in a)) (nltb→le (m * up e * down d) (n * up d * down e) (unfold lt in b)))
same f (fin false m e) (fin true n d) F G p q a b c =
    absurd (T_not (eq (fin false m e) null) c (null-eq false m e (zero_of (m * up e) (down d) (down_pos d) (second (n * up d * down e) (m * up e * down d) (nltb→le 0 (n * up d * down e + m * up e * down d) (unfold lt in b))))))
same f (fin true m e) (fin false n d) F G p q a b c =
    absurd (T_not (eq (fin true m e) null) c (null-eq true m e (zero_of (m * up e) (down d) (down_pos d) (first (m * up e * down d) (n * up d * down e) (nltb→le 0 (m * up e * down d + n * up d * down e) (unfold lt in a))))))

-- ---- what `max` and `min` return, by the tests that led there
module _ (x y : Float) where
  pub max-left : T (lt y x) → x ≡ max_of x y
  unfolding max_of
  max-left h =
      let k = lt-numbers y x h in
      sym (rw (k.1, k.0, lt-asym y x h, is_true (lt y x) h))

  pub max-right : T (lt x y) → y ≡ max_of x y
  unfolding max_of
  max-right h =
      let k = lt-numbers x y h in
      sym (rw (k.0, k.1, is_true (lt x y) h))

  pub min-left : T (lt x y) → x ≡ min_of x y
  unfolding min_of
  min-left h =
      let k = lt-numbers x y h in
      sym (rw (k.0, k.1, is_true (lt x y) h))

  pub min-right : T (lt y x) → y ≡ min_of x y
  unfolding min_of
  min-right h =
      let k = lt-numbers y x h in
      sym (rw (k.1, k.0, lt-asym y x h, is_true (lt y x) h))

  -- a NaN is passed over
  pub max-past : is_nan x ≡ true → y ≡ max_of x y
  unfolding max_of
  max-past h = sym (rw h)

  pub min-past : is_nan x ≡ true → y ≡ min_of x y
  unfolding min_of
  min-past h = sym (rw h)

  pub max-kept : is_nan x ≡ false → is_nan y ≡ true → x ≡ max_of x y
  unfolding max_of
  max-kept g h = sym (rw (g, h))

  pub min-kept : is_nan x ≡ false → is_nan y ≡ true → x ≡ min_of x y
  unfolding min_of
  min-kept g h = sym (rw (g, h))

  -- equal
  pub max-equal : is_nan x ≡ false → is_nan y ≡ false → lt x y ≡ false → lt y x ≡ false → max_of x y ≡ cond (negative x) y x
  unfolding max_of
  max-equal g h a b = rw (g, h, a, b)

  pub min-equal : is_nan x ≡ false → is_nan y ≡ false → lt x y ≡ false → lt y x ≡ false → min_of x y ≡ cond (negative x) x y
  unfolding min_of
  min-equal g h a b = rw (g, h, a, b)

pub same_cond : (b : Bool) (x y : Float) → x ≡ y → (x ≡ cond b y x) × (x ≡ cond b x y)
same_cond true x y e = (e, refl)
same_cond false x y e = (refl, e)

-- two zeros
pub zeros : (s t : Bool) → (add binary32 (fin s 0 (pos 0)) (fin t 0 (pos 0)) ≡ cond (negative (fin s 0 (pos 0))) (fin t 0 (pos 0)) (fin s 0 (pos 0)))
    × (neg (add binary32 (neg (fin s 0 (pos 0))) (neg (fin t 0 (pos 0)))) ≡ cond (negative (fin s 0 (pos 0))) (fin s 0 (pos 0)) (fin t 0 (pos 0)))
unfolding add sum round units neg negative
zeros true true = (refl, refl)
zeros true false = (refl, refl)
zeros false true = (refl, refl)
zeros false false = (refl, refl)

-- equal to zero: a zero
pub null_is : (f : Format) (x : Float) → T (fits f x) → T (eq x null) → (s : Bool) × (x ≡ fin s 0 (pos 0))
null_is f nan F h = unfold eq in absurd h
null_is f (inf s) F h = unfold eq in absurd h
null_is f (fin s zero e) F h = (s, ap (λ (g : ℤ). fin s zero g) (Rattle.ieee.proofs.Value.zero_exp f s e F))
null_is f (fin s (suc m) e) F h = absurd (go (suc m * up e) (down e) (mul-pos (zero-lt-suc m) (up_pos e)) (eqb→eq (suc m * up e * 1) (0 * 1 * down e) (lib.Ieee.Fits.and_l (eqb (suc m * up e * 1) (0 * 1 * down e)) (beq s false || eqb (suc m * up e * 1) 0) (unfold eq in h))))
  where
    go : (a d : ℕ) → 0 < a → a * 1 ≡ 0 * 1 * d → ⊥
    go a d p e = omega arith

-- a number that is neither above nor below a zero is a zero
pub level-zero : (f : Format) (s : Bool) (y : Float) → T (fits f y) → is_nan y ≡ false → T (not (lt (fin s 0 (pos 0)) y)) → T (not (lt y (fin s 0 (pos 0)))) → (t : Bool) × (y ≡ fin t 0 (pos 0))
level-zero f s y G n a b = go (level f y G (subst (λ (z : Bool). T (not z)) (zero-lt s y).0 a) (subst (λ (z : Bool). T (not z)) (zero-lt s y).1 b))
  where
    nan_is : is_nan nan ≡ true
    nan_is = unfold is_nan in refl

    go : ((t : Bool) × (y ≡ fin t 0 (pos 0))) ⊎ (y ≡ nan) → (t : Bool) × (y ≡ fin t 0 (pos 0))
    go (inl z) = z
    go (inr z) = absurd (true≢false (sym nan_is ∙ ap is_nan (sym z) ∙ n))

-- both zeros, with x equal to zero: what `max` and `min` return
module _ (x y : Float) (F : T (fits binary32 x)) (G : T (fits binary32 y)) (z : T (eq x null)) (n : is_nan y ≡ false) (a : T (not (lt x y))) (b : T (not (lt y x))) where
  both_zero : (s : Bool) × (t : Bool) × (x ≡ fin s 0 (pos 0)) × (y ≡ fin t 0 (pos 0))
  both_zero =
      let u = null_is binary32 x F z in
      let v = level-zero binary32 u.0 y G n (subst (λ (w : Float). T (not (lt w y))) u.1 a) (subst (λ (w : Float). T (not (lt y w))) u.1 b) in
      (u.0, v.0, u.1, v.1)

  pub max-zero : add binary32 x y ≡ cond (negative x) y x
  max-zero =
      let w = both_zero in
      (λ i. add binary32 (w.2 i) (w.3 i)) ∙ (zeros w.0 w.1).0 ∙ (λ i. cond (negative (sym w.2 i)) (sym w.3 i) (sym w.2 i))

  pub min-zero : neg (add binary32 (neg x) (neg y)) ≡ cond (negative x) x y
  min-zero =
      let w = both_zero in
      (λ i. neg (add binary32 (neg (w.2 i)) (neg (w.3 i)))) ∙ (zeros w.0 w.1).1 ∙ (λ i. cond (negative (sym w.2 i)) (sym w.2 i) (sym w.3 i))

-- max(x, 0) where x is not above 0
pub max-null : (x : Float) → T (fits binary32 x) → T (not (lt null x)) → null ≡ max_of x null
max-null x F h = go (lt x null) refl
  where
    go : (b : Bool) → lt x null ≡ b → null ≡ max_of x null
    go true e = max-right x null (yes e)
    go false e = at (level binary32 x F h (no e))
      where
        at : ((s : Bool) × (x ≡ fin s 0 (pos 0))) ⊎ (x ≡ nan) → null ≡ max_of x null
        at (inl z) = ap (λ (w : Float). w) (signs z.0) ∙ ap (λ (w : Float). max_of w null) (sym z.1)
          where
            signs : (s : Bool) → null ≡ max_of (fin s 0 (pos 0)) null
            signs true = unfold max_of is_nan lt negative in refl
            signs false = unfold max_of is_nan lt negative in refl
        at (inr z) = sym (ap (λ (w : Float). max_of w null) z ∙ unfold max_of is_nan in refl)
