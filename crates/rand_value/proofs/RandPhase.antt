-- Rand's phase stays from 0 to below 1, its catch-up ends within 65 turns, and its increment is from 0 to 64. `Below x n` says that x is a number from 0 to below n, and `UpTo x n` one from 0 to n, where a zero may be -0.
-- A turn is exact: for an x from 1 to 66, x - 1 is a multiple of the unit of x's last digit and no larger than x, so binary32 holds it. Assumes nothing.
use mathlib.Core.Path.{◌≡◌, refl, sym, ap, ◌∙◌, subst}
use mathlib.Core.Bool.{Bool, true, false, ◌&&◌, ◌||◌, cond, true≢false}
use Prim.Native.Nat.{ℕ, zero, suc, ◌+◌, ◌-◌, ◌*◌, ◌^◌, ◌≤◌, ◌<◌}
use native.Mathlib.Nat.{le_trans, le_of_eq, le_of_lt, lt_of_lt_of_le, lt_of_le_of_lt, zero-lt-suc, one-mul, mul-one, suc-mul, mul_comm, mul_assoc, mul_right_comm, mul-pos, mul-le-mul_left, mul-le-mul_right, mul-lt-mul_of_pos_right, lt_of_mul-lt-mul_right}
use native.Mathlib.Omega.{arith}
use lib.IntN.{ℤ, pos, negsuc}
use lib.Dec.{T, ltb, eqb, ltb→lt, lt→ltb, eqb→eq, not_T, lit≤, lit<}
use lib.Ieee.{Float, nan, inf, fin, binary32, low, up, down, fits, is_nan, lt, eq, le, round, units, odd, sum, add, sub, div, of_bits}
use lib.Ieee.Fits.{up_pos, down_pos, and_i, and_l, and_r, add-fits, sub-fits, round_is, eq→eqb}
use lib.Ieee.Exact.{HasValue}
use lib.Ieee.Order.{round_mono, le_of_values}
use lib.Ieee.Scale.{round_same}
use Rattle.ieee.proofs.Tests.{null, two_to, yes, is_true, is_false, zero-32, one-32}
use Rattle.ieee.proofs.Value.{fits_lt, den-power, fraction-exact, sub-values}
use Rattle.float.specs.Single.{◌⊕◌, zero as zero_f, one}
use Rattle.float.specs.Order.{negative, max_of, min_of}
use Rattle.rand_value.specs.declared.Rand.{Rand}
use Rattle.rand_value.specs.Rand.{rand_turn, catch_up, rand_next, rand_increment}

abbrev Below : Float → ℕ → Type 0
Below nan n = ⊥
Below (inf s) n = ⊥
Below (fin s m e) n = (T s → m ≡ 0) × (m * up e < n * down e)

abbrev UpTo : Float → ℕ → Type 0
UpTo nan n = ⊥
UpTo (inf s) n = ⊥
UpTo (fin s m e) n = (T s → m ≡ 0) × (m * up e ≤ n * down e)

-- ---- the tests as bounds
le-of-tests : (a b : ℕ) → T (ltb a b || (eqb a b && true)) → a ≤ b
le-of-tests a b h = go (ltb a b) (eqb a b) (ltb→lt a b) (eqb→eq a b) h
  where
    go : (p q : Bool) → (T p → a < b) → (T q → a ≡ b) → T (p || (q && true)) → a ≤ b
    go true q l e h = le_of_lt (l tt)
    go false true l e h = le_of_eq (e tt)
    go false false l e h = absurd h

-- with the sign -, what is not below 0 is -0
zero-only : (s : Bool) (m : ℕ) (e : ℤ) → T (le null (fin s m e)) → T s → m ≡ 0
unfolding le lt eq
zero-only false m e h t = absurd t
zero-only true zero e h t = refl
zero-only true (suc m) e h t =
    absurd (go (suc m * up e) (down e) (mul-pos (zero-lt-suc m) (up_pos e)) (eqb→eq (0 * 1 * down e) (suc m * up e * 1) (and_l (eqb (0 * 1 * down e) (suc m * up e * 1)) (eqb (0 * 1 * down e) 0) h)))
  where
    go : (a d : ℕ) → 0 < a → 0 * 1 * d ≡ a * 1 → ⊥
    go a d p e = omega arith

none-le : (m : ℕ) (e : ℤ) (k : ℕ) → m ≡ 0 → m * up e ≤ k
none-le m e k z = subst (λ (i : ℕ). i * up e ≤ k) (sym z) (go (up e) k)
  where
    go : (u k : ℕ) → 0 * u ≤ k
    go u k = omega arith

-- from 0 to n * 2 ^ j
up_to : (x : Float) (n j : ℕ) → T (le null x) → T (le x (fin false n (pos j))) → UpTo x (n * 2 ^ j)
up_to nan n j a h = unfold le lt eq in absurd h
up_to (inf true) n j a h = unfold le lt eq in absurd a
up_to (inf false) n j a h = unfold le lt eq in absurd h
up_to (fin true m e) n j a h = (zero-only true m e a, none-le m e (n * 2 ^ j * down e) (zero-only true m e a tt))
up_to (fin false m e) n j a h = (
  λ t. absurd t,
  subst (λ (i : ℕ). i ≤ n * 2 ^ j * down e) (mul-one (m * up e)) (le-of-tests (m * up e * 1) (n * 2 ^ j * down e) (unfold le lt eq in h)),
)

-- from 0 to below 1
below_one : (x : Float) → T (le null x) → T (lt x (two_to 0)) → Below x 1
below_one nan a h = unfold lt in absurd h
below_one (inf true) a h = unfold le lt eq in absurd a
below_one (inf false) a h = unfold lt in absurd h
below_one (fin true m e) a h = (zero-only true m e a, subst (λ (i : ℕ). i * up e < 1 * down e) (sym (zero-only true m e a tt)) (go (up e) (down e) (down_pos e)))
  where
    go : (u d : ℕ) → 0 < d → 0 * u < 1 * d
    go u d p = omega arith
below_one (fin false m e) a h = (λ t. absurd t, go (m * up e) (down e) (ltb→lt (m * up e * 1) (1 * 1 * down e) (unfold lt in h)))
  where
    go : (a d : ℕ) → a * 1 < 1 * 1 * d → a < 1 * d
    go a d h = omega arith

-- ---- the bounds as tests
at-least-zero : (x : Float) (n : ℕ) → Below x n → T (le null x)
at-least-zero nan n b = absurd b
at-least-zero (inf s) n b = absurd b
at-least-zero (fin false m e) n b = le_of_values null (fin false m e) 0 1 (m * up e) (down e) (zero-lt-suc 0) (down_pos e) (refl, refl) (refl, refl) (go (m * up e) (down e))
  where
    go : (a d : ℕ) → 0 * d ≤ a * 1
    go a d = omega arith
at-least-zero (fin true (suc m) e) n b = absurd (none m (b.0 tt))
  where
    none : (m : ℕ) → suc m ≡ 0 → ⊥
    none m h = omega arith
at-least-zero (fin true zero e) n b = unfold le lt eq in go (0 * 1 * down e) (0 * up e * 1) (left (down e)) (right (up e))
  where
    left : (d : ℕ) → 0 * 1 * d ≡ 0
    left d = omega arith

    right : (u : ℕ) → 0 * u * 1 ≡ 0
    right u = omega arith

    go : (a b : ℕ) → a ≡ 0 → b ≡ 0 → T (eqb a b && eqb a 0)
    go a b p q = and_i (eqb a b) (eqb a 0) (eq→eqb (p ∙ sym q)) (eq→eqb p)

under_one : (x : Float) → Below x 1 → T (lt x (two_to 0))
under_one nan b = absurd b
under_one (inf s) b = absurd b
under_one (fin false m e) b = unfold lt in lt→ltb (m * up e * 1) (1 * 1 * down e) (go (m * up e) (down e) b.1)
  where
    go : (a d : ℕ) → a < 1 * d → a * 1 < 1 * 1 * d
    go a d h = omega arith
under_one (fin true m e) b = unfold lt in lt→ltb 0 (m * up e * 1 + 1 * 1 * down e) (go (m * up e * 1) (down e) (down_pos e))
  where
    go : (a d : ℕ) → 0 < d → 0 < a + 1 * 1 * d
    go a d h = omega arith

-- 1 or more
from_one : (s : Bool) (m : ℕ) (e : ℤ) → T (le (two_to 0) (fin s m e)) → (s ≡ false) × (down e ≤ m * up e)
unfolding le lt eq
from_one false m e h = (refl, go (m * up e) (down e) (le-of-tests (1 * 1 * down e) (m * up e * 1) h))
  where
    go : (a d : ℕ) → 1 * 1 * d ≤ a * 1 → d ≤ a
    go a d h = omega arith
from_one true m e h = absurd (go (down e) (down_pos e) (eqb→eq (1 * 1 * down e) 0 (and_r (eqb (1 * 1 * down e) (m * up e * 1)) (eqb (1 * 1 * down e) 0) h)))
  where
    go : (d : ℕ) → 0 < d → 1 * 1 * d ≡ 0 → ⊥
    go d p h = omega arith

not-one : (x : Float) → Below x 1 → le (two_to 0) x ≡ false
not-one nan b = absurd b
not-one (inf s) b = absurd b
not-one (fin s m e) b = is_false (le (two_to 0) (fin s m e)) (not_T (le (two_to 0) (fin s m e)) (λ h. go (m * up e) (down e) b.1 (from_one s m e h).1))
  where
    go : (a d : ℕ) → a < 1 * d → d ≤ a → ⊥
    go a d h g = omega arith

stopped : (x : Float) (n : ℕ) → Below x n → le (two_to 0) x ≡ false → Below x 1
stopped nan n b h = absurd b
stopped (inf s) n b h = absurd b
stopped (fin true m e) n b h = (b.0, subst (λ (i : ℕ). i * up e < 1 * down e) (sym (b.0 tt)) (go (up e) (down e) (down_pos e)))
  where
    go : (u d : ℕ) → 0 < d → 0 * u < 1 * d
    go u d p = omega arith
stopped (fin false m e) n b h = (
  λ t. absurd t,
  under (λ (g : 1 * down e ≤ m * up e). true≢false (sym (is_true (le (two_to 0) (fin false m e)) (le_of_values (two_to 0) (fin false m e) 1 1 (m * up e) (down e) (zero-lt-suc 0) (down_pos e) (refl, refl) (refl, refl) (subst (λ (i : ℕ). 1 * down e ≤ i) (sym (mul-one (m * up e))) g))) ∙ h)),
)
  where
    under : {a b : ℕ} → (b ≤ a → ⊥) → a < b
    under {a} {b} h = omega arith

-- ---- the sum: at most 65, which binary32 holds
nothing : round binary32 true 0 1 ≡ fin true 0 (pos 0)
unfolding round units
nothing = refl

zero_is : round binary32 false 0 1 ≡ null
unfolding round units
zero_is = refl

top-is : round binary32 false 65 1 ≡ fin false 65 (pos 0)
unfolding round units
top-is = refl

wider : (x : Float) (n : ℕ) → UpTo x n → Below x (suc n)
wider nan n u = absurd u
wider (inf s) n u = absurd u
wider (fin s m e) n u = (u.0, lt_of_le_of_lt u.1 (mul-lt-mul_of_pos_right (go n) (down_pos e)))
  where
    go : (n : ℕ) → n < suc n
    go n = omega arith

rounded : (s : Bool) (a c : ℕ) → (T s → a ≡ 0) → 0 < c → a ≤ 65 * c → Below (round binary32 s a c) 66
rounded true a c z C h = subst (λ (x : Float). Below x 66) (sym (ap (λ (i : ℕ). round binary32 true i c) (z tt) ∙ round_same binary32 true 0 c 0 1 C (zero-lt-suc 0) (none c) ∙ nothing)) (λ t. refl, lit< tt)
  where
    none : (c : ℕ) → 0 * 1 ≡ 0 * c
    none c = omega arith
rounded false a c z C h =
    let x = round binary32 false a c in
    wider x 65
    (up_to x 65 0 (subst (λ (y : Float). T (le y x)) zero_is (round_mono binary32 0 1 a c (zero-lt-suc 0) C (least a c)))
    (subst (λ (y : Float). T (le x y)) top-is (round_mono binary32 a c 65 1 C (zero-lt-suc 0) (subst (λ (i : ℕ). i ≤ 65 * c) (sym (mul-one a)) h))))
  where
    least : (a c : ℕ) → 0 * c ≤ a * 1
    least a c = omega arith

sum_below : (s t : Bool) (a b d : ℕ) → (T s → a ≡ 0) → (T t → b ≡ 0) → 0 < d → a + b ≤ 65 * d → Below (sum binary32 s a t b d) 66
unfolding sum
sum_below false false a b d p q D h = rounded false (a + b) d (λ t. absurd t) D h
sum_below true true a b d p q D h = rounded true (a + b) d (λ t. both a b (p tt) (q tt)) D h
  where
    both : (a b : ℕ) → a ≡ 0 → b ≡ 0 → a + b ≡ 0
    both a b p q = omega arith
sum_below true false a b d p q D h = pick (ltb a b)
  where
    left : (a b c : ℕ) → a + b ≤ c → b - a ≤ c
    left a b c h = omega arith

    right : (a b c : ℕ) → a + b ≤ c → a - b ≤ c
    right a b c h = omega arith

    none : (a b : ℕ) → a ≡ 0 → a - b ≡ 0
    none a b p = omega arith

    pick : (t : Bool) → Below (cond t (round binary32 false (b - a) d) (round binary32 (ltb b a) (a - b) d)) 66
    pick true = rounded false (b - a) d (λ t. absurd t) D (left a b (65 * d) h)
    pick false = rounded (ltb b a) (a - b) d (λ t. none a b (p tt)) D (right a b (65 * d) h)
sum_below false true a b d p q D h = pick (ltb a b)
  where
    left : (a b c : ℕ) → a + b ≤ c → b - a ≤ c
    left a b c h = omega arith

    right : (a b c : ℕ) → a + b ≤ c → a - b ≤ c
    right a b c h = omega arith

    none : (a b : ℕ) → b ≡ 0 → b - a ≡ 0
    none a b p = omega arith

    pick : (t : Bool) → Below (cond t (round binary32 true (b - a) d) (round binary32 false (a - b) d)) 66
    pick true = rounded true (b - a) d (λ t. none a b (q tt)) D (left a b (65 * d) h)
    pick false = rounded false (a - b) d (λ t. absurd t) D (right a b (65 * d) h)

raised : (x y : Float) → Below x 1 → UpTo y 64 → Below (add binary32 x y) 66
raised nan y b u = absurd b
raised (inf s) y b u = absurd b
raised (fin s m e) nan b u = absurd u
raised (fin s m e) (inf t) b u = absurd u
raised (fin s m e) (fin t n g) b u =
    unfold add in
    sum_below s t (m * up e * down g) (n * up g * down e) (down e * down g) (λ z. none m (up e) (down g) (b.0 z)) (λ z. none n (up g) (down e) (u.0 z)) (mul-pos (down_pos e) (down_pos g))
    (total (m * up e * down g) (n * up g * down e) (down e) (down g) (mul-le-mul_right (down g) (le_of_lt b.1)) (mul-le-mul_right (down e) u.1))
  where
    none : (m u d : ℕ) → m ≡ 0 → m * u * d ≡ 0
    none m u d z = ap (λ (i : ℕ). i * u * d) z ∙ go u d
      where
        go : (u d : ℕ) → 0 * u * d ≡ 0
        go u d = omega arith

    total : (a b e g : ℕ) → a ≤ 1 * e * g → b ≤ 64 * g * e → a + b ≤ 65 * (e * g)
    total a b e g h k =
        plain a b (e * g) (subst (λ (i : ℕ). a ≤ i * g) (one-mul e) h)
        (subst (λ (i : ℕ). b ≤ i) (mul_assoc 64 g e ∙ ap (λ (i : ℕ). 64 * i) (mul_comm g e)) k)
      where
        plain : (a b d : ℕ) → a ≤ d → b ≤ 64 * d → a + b ≤ 65 * d
        plain a b d h k = omega arith

-- ---- one turn
value-below : (x : Float) (a c n : ℕ) → 0 < c → HasValue x false a c → a < n * c → Below x n
value-below nan a c n C v h = absurd v
value-below (inf s) a c n C v h = absurd v
value-below (fin true m e) a c n C v h = absurd (true≢false v.0)
value-below (fin false m e) a c n C v h = (
  λ t. absurd t,
  lt_of_mul-lt-mul_right c (lt_of_le_of_lt (le_of_eq v.1) (lt_of_lt_of_le (mul-lt-mul_of_pos_right h (down_pos e)) (le_of_eq (mul_right_comm n c (down e))))),
)

-- over its denominator, a number up to 66 has a numerator of 24 digits at most
few : (m : ℕ) (e : ℤ) (n : ℕ) → n ≤ 66 → T (fits binary32 (fin false m e)) → m * up e < n * down e → m * up e < 2 ^ 24
few m (pos k) n N F h = go (m * 2 ^ k) n N h
  where
    go : (a n : ℕ) → n ≤ 66 → a < n * 1 → a < 2 ^ 24
    go a n h g = omega arith
few m (negsuc k) n N F h = subst (λ (i : ℕ). i < 2 ^ 24) (sym (mul-one m)) (fits_lt binary32 false m (negsuc k) F)

turned : (x : Float) (n : ℕ) → n ≤ 65 → T (fits binary32 x) → T (le (two_to 0) x) → Below x (suc n) → Below (sub binary32 x (two_to 0)) n
turned nan n N F h b = absurd b
turned (inf s) n N F h b = absurd b
turned (fin true m e) n N F h b = absurd (true≢false (from_one true m e h).0)
turned (fin false m e) n N F h b =
    let a = m * up e in
    let c = down e in
    let k = den-power binary32 false m e F in
    let l : c ≤ a = (from_one false m e h).1 in
    let is : sub binary32 (fin false m e) (two_to 0) ≡ round binary32 false (a - c) c =
    sub-values binary32 (fin false m e) (two_to 0) a c 1 1 (down_pos e) (zero-lt-suc 0) (refl, refl) (refl, refl) (order a c l) ∙ (λ i. round binary32 false (plain a c i) (mul-one c i)) in
    let v : HasValue (round binary32 false (a - c) c) false (a - c) c =
    subst (λ (d : ℕ). HasValue (round binary32 false (a - c) d) false (a - c) d) (sym k.1) (fraction-exact binary32 false (a - c) k.0 (lt_of_le_of_lt (part a c) (few m e (suc n) (next n N) F b.1)) k.2) in
    subst (λ (y : Float). Below y n) (sym is) (value-below (round binary32 false (a - c) c) (a - c) c n (down_pos e) v (less a c (n * c) l (subst (λ (i : ℕ). a < i) (suc-mul n c) b.1)))
  where
    order : (a c : ℕ) → c ≤ a → 1 * c ≤ a * 1
    order a c h = omega arith

    plain : (a c : ℕ) → a * 1 - 1 * c ≡ a - c
    plain a c = omega arith

    part : (a c : ℕ) → a - c ≤ a
    part a c = omega arith

    next : (n : ℕ) → n ≤ 65 → suc n ≤ 66
    next n h = omega arith

    less : (a c p : ℕ) → c ≤ a → a < p + c → a - c < p
    less a c p l h = omega arith

-- ---- the catch-up
-- the test of the definitions, whose 1 is a bit pattern
abbrev more : Rand → Bool
more r = le one r.phase

as_one : (x : Float) → le one x ≡ le (two_to 0) x
as_one x = ap (λ (y : Float). le y x) one-32

turned-phase : (from to : Float) (r : Rand) (n : ℕ) → n ≤ 65 → T (fits binary32 r.phase) → more r ≡ true → Below r.phase (suc n) → Below (rand_turn from to r).phase n
unfolding rand_turn
turned-phase from to r n N F t b = subst (λ (y : Float). Below (sub binary32 r.phase y) n) (sym one-32) (turned r.phase n N F (yes (sym (as_one r.phase) ∙ t)) b)

turned-fits : (from to : Float) (r : Rand) → T (fits binary32 (rand_turn from to r).phase)
unfolding rand_turn
turned-fits from to r = sub-fits binary32 r.phase one

abbrev Done : Rand → Type 0
Done r = T (fits binary32 r.phase) × Below r.phase 1

catch-done : (n : ℕ) (from to : Float) (r : Rand) → n ≤ 65 → T (fits binary32 r.phase) → Below r.phase (suc n) → Done (catch_up n (more r) from to r)
catch-done zero from to r N F b = unfold catch_up in (F, b)
catch-done (suc n) from to r N F b = go (more r) refl (λ t. catch-done n from to (rand_turn from to r) (less n N) (turned-fits from to r) (turned-phase from to r (suc n) N F t b))
  where
    less : (n : ℕ) → suc n ≤ 65 → n ≤ 65
    less n h = omega arith

    go : (t : Bool) → more r ≡ t → (more r ≡ true → Done (catch_up n (more (rand_turn from to r)) from to (rand_turn from to r))) → Done (catch_up (suc n) t from to r)
    go true t rest = unfold catch_up in rest t
    go false t rest = unfold catch_up in (F, stopped r.phase (suc (suc n)) b (sym (as_one r.phase) ∙ t))

caught : (n : ℕ) (from to : Float) (r : Rand) → catch_up n false from to r ≡ r
unfolding catch_up
caught zero from to r = refl
caught (suc n) from to r = refl

-- further turns change nothing
catch-more : (n k : ℕ) (from to : Float) (r : Rand) → n ≤ 65 → T (fits binary32 r.phase) → Below r.phase (suc n) → catch_up (k + n) (more r) from to r ≡ catch_up n (more r) from to r
catch-more zero k from to r N F b = ap (λ (t : Bool). catch_up (k + 0) t from to r) e ∙ caught (k + 0) from to r ∙ sym (ap (λ (t : Bool). catch_up 0 t from to r) e ∙ caught 0 from to r)
  where
    e : more r ≡ false
    e = as_one r.phase ∙ not-one r.phase b
catch-more (suc n) k from to r N F b = go (more r) refl (λ t. catch-more n k from to (rand_turn from to r) (less n N) (turned-fits from to r) (turned-phase from to r (suc n) N F t b))
  where
    less : (n : ℕ) → suc n ≤ 65 → n ≤ 65
    less n h = omega arith

    next : (k n : ℕ) → k + suc n ≡ suc (k + n)
    next k n = omega arith

    go : (t : Bool) → more r ≡ t → (more r ≡ true → catch_up (k + n) (more (rand_turn from to r)) from to (rand_turn from to r) ≡ catch_up n (more (rand_turn from to r)) from to (rand_turn from to r)) → catch_up (k + suc n) t from to r ≡ catch_up (suc n) t from to r
    go true t rest = ap (λ (i : ℕ). catch_up i true from to r) (next k n) ∙ (unfold catch_up in rest t)
    go false t rest = caught (k + suc n) from to r ∙ sym (caught (suc n) from to r)

sixty-four : of_bits binary32 0x4280_0000 ≡ two_to 6
unfolding of_bits
sixty-four = refl

-- ---- the laws, for an increment from 0 to 64 and a phase from 0 to below 1. That these fit binary32 is not needed, as the sum is rounded.
-- s before its catch-up
abbrev pub advanced : Float → Rand → Rand
advanced inc s = record s { phase = s.phase ⊕ inc }

module _ (inc from to : Float) (s : Rand) (i0 : le zero_f inc ≡ true) (i64 : le inc (of_bits binary32 0x4280_0000) ≡ true) (p0 : le zero_f s.phase ≡ true) (p1 : lt s.phase one ≡ true) where
  start : Below (s.phase ⊕ inc) 66
  start =
      raised s.phase inc
      (below_one s.phase (yes (ap (λ (y : Float). le y s.phase) (sym zero-32) ∙ p0)) (yes (ap (λ (y : Float). lt s.phase y) (sym one-32) ∙ p1)))
      (up_to inc 1 6 (yes (ap (λ (y : Float). le y inc) (sym zero-32) ∙ i0)) (yes (ap (λ (y : Float). le inc y) (sym sixty-four) ∙ i64)))

  caught-up : Done (rand_next inc from to s)
  caught-up = unfold rand_next in catch-done 65 from to (advanced inc s) (lit≤ tt) (add-fits binary32 s.phase inc) start

  pub phase-kept : T (fits binary32 (rand_next inc from to s).phase) × (le zero_f (rand_next inc from to s).phase ≡ true) × (lt (rand_next inc from to s).phase one ≡ true)
  phase-kept =
      let q = (rand_next inc from to s).phase in (
        caught-up.0,
        ap (λ (y : Float). le y q) zero-32 ∙ is_true (le null q) (at-least-zero q 1 caught-up.1),
        ap (λ (y : Float). lt q y) one-32 ∙ is_true (lt q (two_to 0)) (under_one q caught-up.1),
      )

  pub catch-ends : (k : ℕ) → catch_up (k + 65) (le one (advanced inc s).phase) from to (advanced inc s) ≡ catch_up 65 (le one (advanced inc s).phase) from to (advanced inc s)
  catch-ends k = catch-more 65 k from to (advanced inc s) (lit≤ tt) (add-fits binary32 s.phase inc) start

-- ---- the increment: a quotient of numbers without a sign, or a NaN, cut at 64
units-sign : (s : Bool) (q k : ℕ) → negative (units binary32 s q k) ≡ s
unfolding units odd negative
units-sign s q k = pick q (ltb (q * 2 ^ k) (2 ^ (low binary32 + 128)))
  where
    pick : (q : ℕ) (b : Bool) → negative (cond b (odd 25 s q k (low binary32)) (inf s)) ≡ s
    pick zero true = refl
    pick (suc q) true = refl
    pick q false = refl

round-sign : (s : Bool) (a c : ℕ) → negative (round binary32 s a c) ≡ s
round-sign s a c = ap negative (round_is binary32 s a c) ∙ units-sign s _ _

div-sign : (x y : Float) → negative x ≡ false → negative y ≡ false → negative (div binary32 x y) ≡ false
unfolding negative div
div-sign nan y p q = refl
div-sign (inf true) y p q = absurd (true≢false p)
div-sign (inf false) nan p q = refl
div-sign (inf false) (inf t) p q = refl
div-sign (inf false) (fin true n g) p q = absurd (true≢false q)
div-sign (inf false) (fin false n g) p q = refl
div-sign (fin true m e) y p q = absurd (true≢false p)
div-sign (fin false m e) nan p q = refl
div-sign (fin false m e) (inf true) p q = absurd (true≢false q)
div-sign (fin false m e) (inf false) p q = refl
div-sign (fin false m e) (fin true n g) p q = absurd (true≢false q)
div-sign (fin false m e) (fin false n g) p q = pick (eqb n 0) (eqb m 0)
  where
    pick : (b c : Bool) → negative (cond b (cond c nan (inf false)) (round binary32 false (m * up e * down g) (n * up g * down e))) ≡ false
    pick true true = refl
    pick true false = refl
    pick false c = round-sign false (m * up e * down g) (n * up g * down e)

above-sign : (x y : Float) → negative y ≡ false → T (lt y x) → negative x ≡ false
unfolding negative lt
above-sign nan y p h = refl
above-sign (inf false) y p h = refl
above-sign (fin false m e) y p h = refl
above-sign (inf true) nan p h = absurd h
above-sign (inf true) (inf true) p h = absurd (true≢false p)
above-sign (inf true) (inf false) p h = absurd h
above-sign (inf true) (fin t n g) p h = absurd h
above-sign (fin true m e) nan p h = absurd h
above-sign (fin true m e) (inf true) p h = absurd (true≢false p)
above-sign (fin true m e) (inf false) p h = absurd h
above-sign (fin true m e) (fin true n g) p h = absurd (true≢false p)
above-sign (fin true m e) (fin false n g) p h = absurd h

max-sign : (x y : Float) → is_nan y ≡ false → negative y ≡ false → negative (max_of x y) ≡ false
unfolding max_of
max-sign x y o p = go (is_nan x) (is_nan y) (lt x y) (lt y x) (negative x) o refl refl
  where
    go : (a n b c s : Bool) → n ≡ false → lt y x ≡ c → negative x ≡ s → negative (cond a y (cond n x (cond b y (cond c x (cond s y x))))) ≡ false
    go true n b c s o h k = p
    go false true b c s o h k = absurd (true≢false o)
    go false false true c s o h k = p
    go false false false true s o h k = above-sign x y p (yes h)
    go false false false false true o h k = p
    go false false false false false o h k = k

signless : (x : Float) → is_nan x ≡ false → negative x ≡ false → T (le null x)
signless nan o p = absurd (true≢false (unfold is_nan in o))
signless (inf true) o p = absurd (true≢false (unfold negative in p))
signless (inf false) o p = unfold le lt eq in tt
signless (fin true m e) o p = absurd (true≢false (unfold negative in p))
signless (fin false m e) o p = at-least-zero (fin false m e) (suc (m * up e)) (λ t. absurd t, more (m * up e) (down e) (down_pos e))
  where
    more : (a d : ℕ) → 0 < d → a < suc a * d
    more a d h = lt_of_lt_of_le (next a) (le_trans (le_of_eq (sym (mul-one (suc a)))) (mul-le-mul_left (suc a) h))
      where
        next : (a : ℕ) → a < suc a
        next a = omega arith

lt-le : (x y : Float) → T (lt x y) → T (le x y)
unfolding le
lt-le x y h = go (lt x y) (eq x y) h
  where
    go : (a b : Bool) → T a → T (a || b)
    go true b h = tt
    go false b h = absurd h

abbrev Between : Float → Type 0
Between x = T (le null x) × T (le x (two_to 6))

min-between : (x : Float) → negative x ≡ false → Between (min_of x (two_to 6))
unfolding min_of is_nan
min-between x p = go (is_nan x) (lt x (two_to 6)) (lt (two_to 6) x) (negative x) refl refl p
  where
    end : Between (two_to 6)
    end = unfold le lt eq in (tt, tt)

    go : (a b c s : Bool) → is_nan x ≡ a → lt x (two_to 6) ≡ b → s ≡ false → Between (cond a (two_to 6) (cond b x (cond c (two_to 6) (cond s x (two_to 6)))))
    go true b c s o h k = end
    go false true c s o h k = (signless x o p, lt-le x (two_to 6) (yes h))
    go false false true s o h k = end
    go false false false true o h k = absurd (true≢false k)
    go false false false false o h k = end

one-sign : (x : Float) → T (le (two_to 0) x) → negative x ≡ false
one-sign nan h = unfold negative in refl
one-sign (inf false) h = unfold negative in refl
one-sign (inf true) h = unfold le lt eq in absurd h
one-sign (fin s m e) h = unfold negative in (from_one s m e h).0

least-rate : (is_nan (of_bits binary32 0x38d1_b717) ≡ false) × (negative (of_bits binary32 0x38d1_b717) ≡ false)
unfolding of_bits is_nan negative
least-rate = (refl, refl)

-- whatever the rate is, from a sample rate of 1 on, infinity included
pub increment-bound : (rate srf : Float) → le one srf ≡ true → (le zero_f (rand_increment rate srf) ≡ true) × (le (rand_increment rate srf) (of_bits binary32 0x4280_0000) ≡ true)
unfolding rand_increment
increment-bound rate srf h =
    let x = div binary32 (max_of rate (of_bits binary32 0x38d1_b717)) srf in
    let b = min-between x (div-sign (max_of rate (of_bits binary32 0x38d1_b717)) srf (max-sign rate (of_bits binary32 0x38d1_b717) least-rate.0 least-rate.1) (one-sign srf (yes (sym (as_one srf) ∙ h)))) in
    subst (λ (y : Float). (le zero_f (min_of x y) ≡ true) × (le (min_of x y) y ≡ true)) (sym sixty-four)
    (ap (λ (y : Float). le y (min_of x (two_to 6))) zero-32 ∙ is_true (le null (min_of x (two_to 6))) b.0, is_true (le (min_of x (two_to 6)) (two_to 6)) b.1)
