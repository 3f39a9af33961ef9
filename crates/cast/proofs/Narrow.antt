-- The nearest f32 of a value: std's is `narrow_of`, and by the value's pattern.
use Rattle.std.proofs.Common.{◌≡◌, ℕ, suc, ◌+◌, ◌-◌, ◌*◌, ◌%◌, ◌^◌, ◌<◌, ◌≤◌, Bool, true, false, not, ◌&&◌, T, ◌⊎◌, pos, sym, refl, ap, ◌∙◌, subst, inl, inr, true≢false, le_trans, le_of_eq, lt_of_lt_of_le, lt_of_le_of_lt, mul-le-mul_right, mod-eq_of_lt, mul_assoc, mul-lt-mul_of_pos_right, mul-pos, mul-one, arith, lit≤, ltb→lt, pow_pos, pow_mono, pow-add, shl_lt}
use Prim.Native.Nat.{compare, Ordering}
use native.Mathlib.Nat.{div-eq_of_lt}
use lib.Ieee.{Float, nan, inf, fin, binary32, binary64, up, down, nearest, units, round, neg, lt, fits, is_nan}
use lib.Ieee.Fits.{down_pos}
use lib.Ieee.Exact.{HasValue}
use lib.Ieee.Nearest.{closest, closest_same}
use lib.Ieee.Scale.{round_same}
use Rattle.ieee.proofs.Tests.{null}
use Rattle.ieee.proofs.Build.{pw, Kept, InUnits, round-at, kept-le, kept-ge, units-inf, compare-lt}
use Rattle.ieee.proofs.Read.{Seen, neg-round, nothing-below}
use Rattle.std.specs.Float.{round_to_format}
use Rattle.cast.specs.Narrow.{narrow_of}

pub narrow-is-nearest : (x : Float) → round_to_format binary32 x ≡ narrow_of x
unfolding round_to_format narrow_of
narrow-is-nearest nan = refl
narrow-is-nearest (inf s) = refl
narrow-is-nearest (fin s m e) = refl

-- ---- the nearest f32 of a value a / c
narrow-is : (x : Float) (a c : ℕ) → 0 < c → HasValue x false a c → narrow_of x ≡ round binary32 false a c
unfolding narrow_of
narrow-is nan a c C v = absurd v
narrow-is (inf s) a c C v = absurd v
narrow-is (fin true m e) a c C v = absurd (true≢false v.0)
narrow-is (fin false m e) a c C v = round_same binary32 false (m * up e) (down e) a c (down_pos e) C v.1

-- below half of the smallest value
closest-zero : (n u : ℕ) → n * 2 < u → closest n u ≡ 0
closest-zero n u h =
    let l : n < u = less n u h in
    ap (λ (q : ℕ). nearest q (compare (n % u * 2) u)) (div-eq_of_lt l)
    ∙ ap (λ (r : ℕ). nearest 0 (compare (r * 2) u)) (mod-eq_of_lt l)
    ∙ ap (λ (o : Ordering). nearest 0 o) (compare-lt (n * 2) u h)
  where
    less : (n u : ℕ) → n * 2 < u → n < u
    less n u h = omega arith

no-units : units binary32 false 0 0 ≡ null
unfolding units
no-units = refl

to-zero : (a j : ℕ) → a < 2 ^ (53 + j) → j ≤ 871 → null ≡ round binary32 false a (2 ^ 1074)
to-zero a j h J =
    let n = a * 2 ^ 149 in
    let N : n < 2 ^ 1073 = lt_of_lt_of_le (shl_lt (53 + j) 149 h) (pow_mono (room j J)) in
    let u : 2 ^ 1074 * 2 ^ 0 ≡ 2 ^ 1074 = mul-one (2 ^ 1074) in
    sym
    (round-at binary32 false a (2 ^ 1074) 0 (pow_pos 1074) (inl refl, lt_of_lt_of_le N (le_trans (pow_mono {i = 1073} {j = 1098} (lit≤ tt)) (le_of_eq (sym (pw 24 1074 1098 refl)))))
    ∙ ap (λ (q : ℕ). units binary32 false q 0) (ap (λ (z : ℕ). closest n z) u ∙ closest-zero n (2 ^ 1074) (lt_of_lt_of_le (mul-lt-mul_of_pos_right N (pow_pos 1)) (le_of_eq (pw 1073 1 1074 refl))))
    ∙ no-units)
  where
    room : (j : ℕ) → j ≤ 871 → 53 + j + 149 ≤ 1073
    room j h = omega arith

lead : (t : ℕ) → t < 2 ^ 52 → 2 ^ 52 + t < 2 ^ 53
lead t h = omega arith

lead-ge : (t : ℕ) → 2 ^ 52 ≤ 2 ^ 52 + t
lead-ge t = omega arith

pub tiny : (x : Float) (f t : ℕ) → t < 2 ^ 52 → f < 873 → Seen binary64 x f t → null ≡ narrow_of x
tiny x f t h l (inl v) =
    to-zero (t * 2 ^ 0) 0 (subst (λ (z : ℕ). z < 2 ^ 53) (sym (mul-one t)) (lt_of_lt_of_le h (lit≤ tt))) (lit≤ tt)
    ∙ sym (narrow-is x (t * 2 ^ 0) (2 ^ 1074) (pow_pos 1074) v.1)
tiny x f t h l (inr (inl v)) =
    let j = v.0 in
    to-zero ((2 ^ 52 + t) * 2 ^ j) j (shl_lt 53 j (lead t h)) (go f j v.2 l)
    ∙ sym (narrow-is x ((2 ^ 52 + t) * 2 ^ j) (2 ^ 1074) (pow_pos 1074) v.3)
  where
    go : (f j : ℕ) → f ≡ suc j → f < 873 → j ≤ 871
    go f j e h = omega arith
tiny x f t h l (inr (inr v)) = absurd (go f v.0 l)
  where
    go : (f : ℕ) → f ≡ 2047 → f < 873 → ⊥
    go f e h = omega arith

-- ---- from half of the smallest value up: m is the digits, of which s are dropped, and k units of the exponent stay
pub record Rounds (x : Float) (m s k : ℕ) : Type 0 where
  pub kept : Kept binary32 k (closest m (2 ^ s))
  pub small : closest m (2 ^ s) ≤ 2 ^ 24
  pub gives : units binary32 false (closest m (2 ^ s)) k ≡ narrow_of x

rounds : (x : Float) (m j s k : ℕ) → HasValue x false (m * 2 ^ j) (2 ^ 1074) → 2 ^ 52 ≤ m → m < 2 ^ 53 → j + 149 + s ≡ 1074 + k → (k ≡ 0) ⊎ (s ≡ 29) → 29 ≤ s → Rounds x m s k
rounds x m j s k v lo hi e c l =
    let n = m * 2 ^ j * 2 ^ 149 in
    let N : n ≡ m * 2 ^ (j + 149) = mul_assoc m (2 ^ j) (2 ^ 149) ∙ ap (λ (z : ℕ). m * z) (sym (pow-add 2 j 149)) in
    let iu : InUnits binary32 n (2 ^ 1074) k = (lower c N, lt_of_le_of_lt (le_of_eq N) (lt_of_lt_of_le (shl_lt 53 (j + 149) hi) (le_trans (pow_mono (room j s k e l)) (le_of_eq (sym (pw (24 + k) 1074 (24 + k + 1074) refl)))))) in
    let same : closest n (2 ^ 1074 * 2 ^ k) ≡ closest m (2 ^ s) =
    closest_same n (2 ^ 1074 * 2 ^ k) m (2 ^ s) (mul-pos (pow_pos 1074) (pow_pos k)) (pow_pos s)
    (ap (λ (z : ℕ). z * 2 ^ s) N ∙ mul_assoc m (2 ^ (j + 149)) (2 ^ s) ∙ ap (λ (z : ℕ). m * z) (pw (j + 149) s (1074 + k) e ∙ pow-add 2 1074 k)) in
    record {
      kept = subst (λ (q : ℕ). Kept binary32 k q) same (kept-ge binary32 n (2 ^ 1074) k (pow_pos 1074) iu);
      small = subst (λ (q : ℕ). q ≤ 2 ^ 24) same (kept-le binary32 n (2 ^ 1074) k (pow_pos 1074) iu);
      gives = ap (λ (q : ℕ). units binary32 false q k) (sym same) ∙ sym (narrow-is x (m * 2 ^ j) (2 ^ 1074) (pow_pos 1074) v ∙ round-at binary32 false (m * 2 ^ j) (2 ^ 1074) k (pow_pos 1074) iu);
    }
  where
    room : (j s k : ℕ) → j + 149 + s ≡ 1074 + k → 29 ≤ s → 53 + (j + 149) ≤ 24 + k + 1074
    room j s k e l = omega arith

    exact : (j s k : ℕ) → j + 149 + s ≡ 1074 + k → s ≡ 29 → 23 + k + 1074 ≡ 52 + (j + 149)
    exact j s k e f = omega arith

    lower : (k ≡ 0) ⊎ (s ≡ 29) → m * 2 ^ j * 2 ^ 149 ≡ m * 2 ^ (j + 149) → (k ≡ 0) ⊎ (2 ^ (23 + k) * 2 ^ 1074 ≤ m * 2 ^ j * 2 ^ 149)
    lower (inl z) N = inl z
    lower (inr z) N =
        inr (le_trans (le_of_eq (pw (23 + k) 1074 (52 + (j + 149)) (exact j s k e z) ∙ pow-add 2 52 (j + 149))) (le_trans (mul-le-mul_right (2 ^ (j + 149)) lo) (le_of_eq (sym N))))

pub middle : (x : Float) (f t : ℕ) → t < 2 ^ 52 → 863 ≤ f → f < 897 → Seen binary64 x f t → Rounds x (2 ^ 52 + t) (926 - f) 0
middle x f t h a b (inl v) = absurd (go f v.0 a)
  where
    go : (f : ℕ) → f ≡ 0 → 863 ≤ f → ⊥
    go f e h = omega arith
middle x f t h a b (inr (inl v)) = rounds x (2 ^ 52 + t) v.0 (926 - f) 0 v.3 (lead-ge t) (lead t h) (go f v.0 v.2 b) (inl refl) (most f b)
  where
    go : (f j : ℕ) → f ≡ suc j → f < 897 → j + 149 + (926 - f) ≡ 1074 + 0
    go f j e h = omega arith

    most : (f : ℕ) → f < 897 → 29 ≤ 926 - f
    most f h = omega arith
middle x f t h a b (inr (inr v)) = absurd (go f v.0 b)
  where
    go : (f : ℕ) → f ≡ 2047 → f < 897 → ⊥
    go f e h = omega arith

large-at : (x : Float) (f t j : ℕ) → t < 2 ^ 52 → 897 ≤ f → f ≡ suc j → HasValue x false ((2 ^ 52 + t) * 2 ^ j) (2 ^ 1074) → Rounds x (2 ^ 52 + t) 29 (f - 897)
large-at x f t j h a e v = rounds x (2 ^ 52 + t) j 29 (f - 897) v (lead-ge t) (lead t h) (go f j e a) (inr refl) (lit≤ tt)
  where
    go : (f j : ℕ) → f ≡ suc j → 897 ≤ f → j + 149 + 29 ≡ 1074 + (f - 897)
    go f j e h = omega arith

pub large : (x : Float) (f t : ℕ) → t < 2 ^ 52 → 897 ≤ f → f ≤ 1150 → Seen binary64 x f t → Rounds x (2 ^ 52 + t) 29 (f - 897)
large x f t h a b (inl v) = absurd (go f v.0 a)
  where
    go : (f : ℕ) → f ≡ 0 → 897 ≤ f → ⊥
    go f e h = omega arith
large x f t h a b (inr (inl v)) = large-at x f t v.0 h a v.2 v.3
large x f t h a b (inr (inr v)) = absurd (go f v.0 b)
  where
    go : (f : ℕ) → f ≡ 2047 → f ≤ 1150 → ⊥
    go f e h = omega arith

-- from 2 ^ 128 up
pub too_large : (x : Float) (f t : ℕ) → t < 2 ^ 52 → 1150 < f → Seen binary64 x f t → inf false ≡ narrow_of x
too_large x f t h a (inl v) = absurd (go f v.0 a)
  where
    go : (f : ℕ) → f ≡ 0 → 1150 < f → ⊥
    go f e h = omega arith
too_large x f t h a (inr (inl v)) =
    let r = large-at x f t v.0 h (less f a) v.2 v.3 in
    sym (units-inf binary32 (closest (2 ^ 52 + t) (2 ^ 29)) (f - 897) (over r.kept)) ∙ r.gives
  where
    less : (f : ℕ) → 1150 < f → 897 ≤ f
    less f h = omega arith

    no_zero : (f : ℕ) → 1150 < f → f - 897 ≡ 0 → ⊥
    no_zero f h e = omega arith

    high : (f : ℕ) → 1150 < f → 277 ≤ 23 + (f - 897)
    high f h = omega arith

    over : Kept binary32 (f - 897) (closest (2 ^ 52 + t) (2 ^ 29)) → 2 ^ 277 ≤ closest (2 ^ 52 + t) (2 ^ 29) * 2 ^ (f - 897)
    over (inl z) = absurd (no_zero f a z)
    over (inr l) = le_trans (pow_mono (high f a)) (le_trans (le_of_eq (pow-add 2 23 (f - 897))) (mul-le-mul_right (2 ^ (f - 897)) l))
too_large x f t h a (inr (inr v)) = sym (ap narrow_of v.1 ∙ stays)
  where
    stays : narrow_of (inf false) ≡ inf false
    stays = unfold narrow_of in refl

-- ---- the sign
pub neg-narrow : (x : Float) → T (lt x null) → neg (narrow_of (neg x)) ≡ narrow_of x
unfolding narrow_of neg lt
neg-narrow nan h = absurd h
neg-narrow (inf true) h = refl
neg-narrow (inf false) h = absurd h
neg-narrow (fin true m e) h = neg-round binary32 (m * up e) (down e)
neg-narrow (fin false m e) h = absurd (nothing-below (m * up e * 1) (down e) (ltb→lt (m * up e * 1) (0 * 1 * down e) h))

-- ---- a zero stays
pub zero-stays : (s : Bool) → T (fits binary32 (fin s 0 (pos 0)) && not (is_nan (fin s 0 (pos 0)))) × (fin s 0 (pos 0) ≡ narrow_of (fin s 0 (pos 0)))
unfolding fits is_nan narrow_of round units
zero-stays s = (tt, refl)
