-- A float from its parts: `build` says that the bit pattern k * hid + q, hid the weight of the exponent's field, is `units f false q k`, and `round-at` that the rounding of a fraction is `units` of the nearest
-- whole number of units of 2 ^ k. Then the nearest whole number by a shift of the digits. Assumes nothing.
use Rattle.std.proofs.Common.{◌≡◌, ℕ, suc, ◌+◌, ◌-◌, ◌*◌, ◌/◌, ◌%◌, ◌^◌, ◌<◌, ◌≤◌, Bool, true, false, cond, not, T, eqb, ltb, ◌⊎◌, sym, refl, ap, ◌∙◌, subst, inl, inr, true≢false, le_trans, le_of_eq, lt_of_lt_of_le, lt_of_le_of_lt, le_of_lt, lt_irrefl, mul-le-mul_right, mod-eq_of_lt, mul_assoc, mul_comm, div-lt_iff_lt-mul, le_antisymm, eq-or-lt_of_le, mul-le-mul_left, mul-pos, one-mul, pow-suc, lt_of_not-le, le-div_iff_mul-le, zero-add, not-le_of_lt, div-mul-le_self, le_of_mul-le-mul_right, mul-div_cancel, arith, lit<, le→leb, eqb→eq, ltb→lt, lt→ltb, nltb→le, pow_pos, pow_mono, pow-add, shl_lt}
use Prim.Native.Nat.{compare, Ordering}
use native.Mathlib.Nat.{mod-eq-sub-div-mul}
use lib.Dec.{is_le, compare_is_eq, not_T}
use lib.Arith.{lt→nleb}
use lib.Pow.{pow-lt}
use lib.Ieee.{Float, nan, inf, fin, Format, binary32, binary64, prec, emax, low, hid, ones, down, size, nearest, odd, units, round, fits, is_nan, nan_bits, of_bits, to_bits}
use lib.Ieee.Digits.{size-lt, size-le}
use lib.Ieee.Fits.{down_pos, nearest-le, round_is, odd-fits, inf-fits, eq→eqb, two, two-le_pos}
use lib.Ieee.Bits.{of_bits-to_bits, nan_bits_is}
use lib.Ieee.Exact.{HasValue, odd_sign}
use lib.Ieee.Nearest.{closest, nearest-ge}
use Rattle.ieee.proofs.Tests.{cond_yes, cond_no}

-- ---- small things
pub pw : (a b c : ℕ) → a + b ≡ c → 2 ^ a * 2 ^ b ≡ 2 ^ c
pw a b c e = sym (pow-add 2 a b) ∙ ap (λ (z : ℕ). 2 ^ z) e

-- n has y + 1 digits
pub size_is : (n y : ℕ) → 2 ^ y ≤ n → n < 2 ^ suc y → size n ≡ suc y
size_is n y lo hi = le_antisymm (size-le n (suc y) hi) (lt_of_not-le (λ (g : size n ≤ y). not-le_of_lt (lt_of_lt_of_le (size-lt n) (pow_mono g)) lo))

-- ---- the pattern of q * 2 ^ k units, in a format of P = p + 1 digits
abbrev pub Kept : Format → ℕ → ℕ → Type 0
Kept f k q = (k ≡ 0) ⊎ (2 ^ (prec f - 1) ≤ q)

pub top-is : (f : Format) → prec f ≡ suc (prec f - 1)
top-is binary32 = refl
top-is binary64 = refl

drops : (p q k : ℕ) → (k ≡ 0) ⊎ (2 ^ p ≤ q) → q < 2 ^ suc p → size (q * 2 ^ k) - suc p ≡ k
drops p q k (inl e) h = go p k (size (q * 2 ^ k)) (size-le (q * 2 ^ k) (suc p + k) (shl_lt (suc p) k h)) e
  where
    go : (p k s : ℕ) → s ≤ suc p + k → k ≡ 0 → s - suc p ≡ k
    go p k s l e = omega arith
drops p q k (inr l) h =
    ap (λ (z : ℕ). z - suc p)
    (size_is (q * 2 ^ k) (p + k) (le_trans (le_of_eq (pow-add 2 p k)) (mul-le-mul_right (2 ^ k) l)) (subst (λ (z : ℕ). q * 2 ^ k < 2 ^ z) (next p k) (shl_lt (suc p) k h)))
    ∙ less p k
  where
    next : (p k : ℕ) → suc p + k ≡ suc (p + k)
    next p k = omega arith

    less : (p k : ℕ) → suc (p + k) - suc p ≡ k
    less p k = omega arith

abbrev written : ℕ → ℕ → ℕ
written p n = 0 + (size n - suc p) * 2 ^ p + n / 2 ^ (size n - suc p)

written-lt : (p q k : ℕ) → (k ≡ 0) ⊎ (2 ^ p ≤ q) → q < 2 ^ suc p → written p (q * 2 ^ k) ≡ k * 2 ^ p + q
written-lt p q k c h =
    ap (λ (z : ℕ). 0 + z * 2 ^ p + q * 2 ^ k / 2 ^ z) (drops p q k c h)
    ∙ ap (λ (z : ℕ). 0 + k * 2 ^ p + z) (mul-div_cancel q (pow_pos k))
    ∙ ap (λ (z : ℕ). z + q) (zero-add (k * 2 ^ p))

written-top : (p k : ℕ) → written p (2 ^ suc p * 2 ^ k) ≡ k * 2 ^ p + 2 ^ suc p
written-top p k =
    let n = 2 ^ suc p * 2 ^ k in
    let d : size n - suc p ≡ suc k =
    ap (λ (z : ℕ). z - suc p) (size_is n (suc p + k) (le_of_eq (pow-add 2 (suc p) k)) (lt_of_le_of_lt (le_of_eq (sym (pow-add 2 (suc p) k))) (pow-lt (next (suc p + k))))) ∙ less p k in
    ap (λ (z : ℕ). 0 + z * 2 ^ p + n / 2 ^ z) d
    ∙ ap (λ (z : ℕ). 0 + suc k * 2 ^ p + z / 2 ^ suc k) (pw (suc p) k (p + suc k) (shift p k) ∙ pow-add 2 p (suc k))
    ∙ ap (λ (z : ℕ). 0 + suc k * 2 ^ p + z) (mul-div_cancel (2 ^ p) (pow_pos (suc k)))
    ∙ ap (λ (z : ℕ). 0 + z + 2 ^ p) (native.Mathlib.Nat.suc-mul k (2 ^ p))
    ∙ carry (k * 2 ^ p) (2 ^ p)
    ∙ ap (λ (z : ℕ). k * 2 ^ p + z) (sym (pow-suc 2 p))
  where
    next : (a : ℕ) → a < suc a
    next a = omega arith

    less : (p k : ℕ) → suc (suc p + k) - suc p ≡ suc k
    less p k = omega arith

    shift : (p k : ℕ) → suc p + k ≡ p + suc k
    shift p k = omega arith

    carry : (a b : ℕ) → 0 + (a + b) + b ≡ a + b * 2
    carry a b = omega arith

written_is : (p q k : ℕ) → (k ≡ 0) ⊎ (2 ^ p ≤ q) → q ≤ 2 ^ suc p → written p (q * 2 ^ k) ≡ k * 2 ^ p + q
written_is p q k c h = go (eq-or-lt_of_le h)
  where
    go : (q ≡ 2 ^ suc p) ⊎ (q < 2 ^ suc p) → written p (q * 2 ^ k) ≡ k * 2 ^ p + q
    go (inl e) = subst (λ (z : ℕ). written p (z * 2 ^ k) ≡ k * 2 ^ p + z) (sym e) (written-top p k)
    go (inr l) = written-lt p q k c l

to_bits-at : (f : Format) (v : Float) (n : ℕ) → HasValue v false n (2 ^ low f) → to_bits f v ≡ written (prec f - 1) n
to_bits-at f v n h = go v h ∙ ap (λ (P : ℕ). 0 + (size n - P) * 2 ^ (prec f - 1) + n / 2 ^ (size n - P)) (top-is f)
  where
    go : (v : Float) → HasValue v false n (2 ^ low f) → to_bits f v ≡ 0 + (size n - prec f) * 2 ^ (prec f - 1) + n / 2 ^ (size n - prec f)
    go nan h = absurd h
    go (inf s) h = absurd h
    go (fin true m e) h = absurd (true≢false h.0)
    go (fin false m e) h = unfold to_bits in ap (λ (z : ℕ). 0 + (size z - prec f) * 2 ^ (prec f - 1) + z / 2 ^ (size z - prec f)) (ap (λ (z : ℕ). z / down e) h.1 ∙ mul-div_cancel n (down_pos e))

abbrev past : Format → ℕ
past f = 2 ^ (low f + suc (emax f))

pub units-odd : (f : Format) (q k : ℕ) → q * 2 ^ k < past f → units f false q k ≡ odd (suc (prec f)) false q k (low f)
unfolding units
units-odd f q k h = cond_yes (ltb (q * 2 ^ k) (past f)) (odd (suc (prec f)) false q k (low f)) (inf false) (lt→ltb (q * 2 ^ k) (past f) h)

pub units-inf : (f : Format) (q k : ℕ) → past f ≤ q * 2 ^ k → units f false q k ≡ inf false
unfolding units
units-inf f q k h = cond_no (ltb (q * 2 ^ k) (past f)) (odd (suc (prec f)) false q k (low f)) (inf false) (lib.Arith.le→nltb (q * 2 ^ k) (past f) h)

pub units-fits : (f : Format) (q k : ℕ) → q ≤ 2 ^ prec f → T (fits f (units f false q k))
units-fits f q k h = go (ltb (q * 2 ^ k) (past f)) (ltb→lt (q * 2 ^ k) (past f)) (nltb→le (q * 2 ^ k) (past f))
  where
    next : (a : ℕ) → a < suc a
    next a = omega arith

    go : (b : Bool) → (T b → q * 2 ^ k < past f) → (T (not b) → past f ≤ q * 2 ^ k) → T (fits f (units f false q k))
    go true a n = subst (λ (v : Float). T (fits f v)) (sym (units-odd f q k (a tt))) (odd-fits f (suc (prec f)) false q k (lt_of_le_of_lt h (pow-lt (next (prec f)))) h (a tt))
    go false a n = subst (λ (v : Float). T (fits f v)) (sym (units-inf f q k (n tt))) (inf-fits f false)

infinite : (f : Format) → of_bits f ((ones f - 2) * hid f + 2 ^ prec f) ≡ inf false
unfolding of_bits
infinite binary32 = refl
infinite binary64 = refl

-- at the overflow there is one pattern left
below_top : (f : Format) → (prec f + (ones f - 2) ≡ low f + suc (emax f)) × (0 < ones f - 2)
below_top binary32 = (refl, lit< tt)
below_top binary64 = (refl, lit< tt)

at_top : (P K q k : ℕ) → 0 < K → q ≤ 2 ^ P → k ≤ K → 2 ^ (P + K) ≤ q * 2 ^ k → (q ≡ 2 ^ P) × (k ≡ K)
at_top P K q k z h l g =
    let j : K ≤ k = not-lt (λ (s : k < K). lt_irrefl (2 ^ (P + k)) (lt_of_lt_of_le (pow-lt (more P s)) (le_trans g (le_trans (mul-le-mul_right (2 ^ k) h) (le_of_eq (sym (pow-add 2 P k))))))) in
    let e : k ≡ K = le_antisymm l j in
    (le_antisymm h (le_of_mul-le-mul_right (subst (λ (z : ℕ). 2 ^ P * 2 ^ K ≤ q * 2 ^ z) e (le_trans (le_of_eq (sym (pow-add 2 P K))) g)) (pow_pos K)), e)
  where
    not-lt : {a b : ℕ} → (a < b → ⊥) → b ≤ a
    not-lt {a} {b} h = omega arith

    more : (P : ℕ) {a b : ℕ} → a < b → P + a < P + b
    more P {a} {b} h = omega arith

pub build : (f : Format) (q k : ℕ) → Kept f k q → q ≤ 2 ^ prec f → k ≤ ones f - 2 → of_bits f (k * hid f + q) ≡ units f false q k
build f q k c h l = go (ltb (q * 2 ^ k) (past f)) (ltb→lt (q * 2 ^ k) (past f)) (nltb→le (q * 2 ^ k) (past f))
  where
    room : q < 2 ^ suc (prec f)
    room = lt_of_le_of_lt h (pow-lt (next (prec f)))
      where
        next : (a : ℕ) → a < suc a
        next a = omega arith

    go : (b : Bool) → (T b → q * 2 ^ k < past f) → (T (not b) → past f ≤ q * 2 ^ k) → of_bits f (k * hid f + q) ≡ units f false q k
    go true a n =
        let v = odd (suc (prec f)) false q k (low f) in
        let F : T (fits f v) = odd-fits f (suc (prec f)) false q k room h (a tt) in
        ap (λ (z : ℕ). of_bits f z) (sym (to_bits-at f v (q * 2 ^ k) (odd_sign (suc (prec f)) false q k (low f)) ∙ written_is (prec f - 1) q k c (subst (λ (z : ℕ). q ≤ 2 ^ z) (top-is f) h)))
        ∙ of_bits-to_bits f v F
        ∙ sym (units-odd f q k (a tt))
    go false a n =
        let e = at_top (prec f) (ones f - 2) q k (below_top f).1 h l (subst (λ (z : ℕ). 2 ^ z ≤ q * 2 ^ k) (sym (below_top f).0) (n tt)) in
        ap (λ (z : ℕ). of_bits f (z * hid f + q)) e.1 ∙ ap (λ (z : ℕ). of_bits f ((ones f - 2) * hid f + z)) e.0 ∙ infinite f ∙ sym (units-inf f q k (n tt))

-- it is no NaN's pattern
pub value-no-nan : (v : Float) (n c : ℕ) → HasValue v false n c → T (not (is_nan v))
unfolding is_nan
value-no-nan nan n c h = absurd h
value-no-nan (inf s) n c h = tt
value-no-nan (fin s m e) n c h = tt

not-nan : (f : Format) (q k : ℕ) → T (not (is_nan (units f false q k)))
unfolding units is_nan
not-nan f q k = go (ltb (q * 2 ^ k) (past f))
  where
    go : (b : Bool) → T (not (is_nan (cond b (odd (suc (prec f)) false q k (low f)) (inf false))))
    go true = value-no-nan (odd (suc (prec f)) false q k (low f)) (q * 2 ^ k) (2 ^ low f) (odd_sign (suc (prec f)) false q k (low f))
    go false = tt

pub no-nan-bits : (f : Format) (q k : ℕ) → Kept f k q → q ≤ 2 ^ prec f → k ≤ ones f - 2 → T (not (nan_bits f (k * hid f + q)))
no-nan-bits f q k c h l = subst (λ (b : Bool). T (not b)) (sym (nan_bits_is f (k * hid f + q) ∙ ap is_nan (build f q k c h l))) (not-nan f q k)

-- ---- the rounding of num / den to a format of P digits, by k: how many of the digits before the point, counted in units, are dropped
abbrev pub InUnits : Format → ℕ → ℕ → ℕ → Type 0
InUnits f n den k = ((k ≡ 0) ⊎ (2 ^ (prec f - 1 + k) * den ≤ n)) × (n < 2 ^ (prec f + k) * den)

dropped : (P n den k : ℕ) → 0 < P → 0 < den → ((k ≡ 0) ⊎ (2 ^ (P - 1 + k) * den ≤ n)) → n < 2 ^ (P + k) * den → size (n / den) - P ≡ k
dropped P n den k p D l h = go l
  where
    few : (z P k : ℕ) → z ≤ P + k → k ≡ 0 → z - P ≡ k
    few z P k l e = omega arith

    next : (P k : ℕ) → 0 < P → P + k ≡ suc (P - 1 + k)
    next P k h = omega arith

    less : (P k : ℕ) → 0 < P → suc (P - 1 + k) - P ≡ k
    less P k h = omega arith

    upper : n / den < 2 ^ (P + k)
    upper = (div-lt_iff_lt-mul D).1 h

    go : (k ≡ 0) ⊎ (2 ^ (P - 1 + k) * den ≤ n) → size (n / den) - P ≡ k
    go (inl e) = few (size (n / den)) P k (size-le (n / den) (P + k) upper) e
    go (inr l) = ap (λ (z : ℕ). z - P) (size_is (n / den) (P - 1 + k) ((le-div_iff_mul-le D).1 l) (subst (λ (z : ℕ). n / den < 2 ^ z) (next P k p) upper)) ∙ less P k p

pub round-at : (f : Format) (s : Bool) (num den k : ℕ) → 0 < den → InUnits f (num * 2 ^ low f) den k → round f s num den ≡ units f s (closest (num * 2 ^ low f) (den * 2 ^ k)) k
round-at f s num den k D h =
    round_is f s num den ∙ ap (λ (z : ℕ). units f s (closest (num * 2 ^ low f) (den * 2 ^ z)) z) (dropped (prec f) (num * 2 ^ low f) den k (two-le_pos (prec f) (two f)) D h.0 h.1)

regroup : (a d k : ℕ) → 2 ^ (a + k) * d ≡ 2 ^ a * (d * 2 ^ k)
regroup a d k = ap (λ (z : ℕ). z * d) (pow-add 2 a k) ∙ mul_assoc (2 ^ a) (2 ^ k) d ∙ ap (λ (z : ℕ). 2 ^ a * z) (mul_comm (2 ^ k) d)

-- what is kept has at most P digits, or is 2 ^ P
pub kept-le : (f : Format) (n den k : ℕ) → 0 < den → InUnits f n den k → closest n (den * 2 ^ k) ≤ 2 ^ prec f
kept-le f n den k D h =
    let u = den * 2 ^ k in
    le_trans (nearest-le (n / u) (compare (n % u * 2) u)) ((div-lt_iff_lt-mul (mul-pos D (pow_pos k))).1 (lt_of_lt_of_le h.1 (le_of_eq (regroup (prec f) den k))))

pub kept-ge : (f : Format) (n den k : ℕ) → 0 < den → InUnits f n den k → (k ≡ 0) ⊎ (2 ^ (prec f - 1) ≤ closest n (den * 2 ^ k))
kept-ge f n den k D h = go h.0
  where
    go : (k ≡ 0) ⊎ (2 ^ (prec f - 1 + k) * den ≤ n) → (k ≡ 0) ⊎ (2 ^ (prec f - 1) ≤ closest n (den * 2 ^ k))
    go (inl e) = inl e
    go (inr l) =
        let u = den * 2 ^ k in
        inr (le_trans ((le-div_iff_mul-le (mul-pos D (pow_pos k))).1 (le_trans (le_of_eq (sym (regroup (prec f - 1) den k))) l)) (nearest-ge (n / u) (compare (n % u * 2) u)))

-- ---- `closest n (2 ^ k)` by a shift and a test of what it drops
pub compare-lt : (a b : ℕ) → a < b → compare a b ≡ Ordering.lt
compare-lt a b h = go (compare a b) (le→leb a b (le_of_lt h)) (not_T (eqb a b) (λ t. lt_irrefl b (subst (λ (z : ℕ). z < b) (eqb→eq a b t) h)))
  where
    go : (o : Ordering) → T (is_le o) → T (not (compare_is_eq o)) → o ≡ Ordering.lt
    go Ordering.lt p q = refl
    go Ordering.eq p q = absurd q
    go Ordering.gt p q = absurd p

compare-eq : (a b : ℕ) → a ≡ b → compare a b ≡ Ordering.eq
compare-eq a b h = go (compare a b) (eq→eqb h)
  where
    go : (o : Ordering) → T (compare_is_eq o) → o ≡ Ordering.eq
    go Ordering.lt p = absurd p
    go Ordering.eq p = refl
    go Ordering.gt p = absurd p

compare-gt : (a b : ℕ) → b < a → compare a b ≡ Ordering.gt
compare-gt a b h = go (compare a b) (lt→nleb a b h)
  where
    go : (o : Ordering) → T (not (is_le o)) → o ≡ Ordering.gt
    go Ordering.lt p = absurd p
    go Ordering.eq p = absurd p
    go Ordering.gt p = refl

module _ (n k : ℕ) (n64 : n < 2 ^ 64) (k1 : 1 ≤ k) (k64 : k < 64) where
  pub kept-shift : n / 2 ^ k * 2 ^ k % 2 ^ 64 ≡ n / 2 ^ k * 2 ^ k
  kept-shift = mod-eq_of_lt (lt_of_le_of_lt (div-mul-le_self n (2 ^ k)) n64)

  pub rest-fits : n / 2 ^ k * 2 ^ k % 2 ^ 64 ≤ n
  rest-fits = le_trans (le_of_eq kept-shift) (div-mul-le_self n (2 ^ k))

  rest-is : n - n / 2 ^ k * 2 ^ k % 2 ^ 64 ≡ n % 2 ^ k
  rest-is = ap (λ (z : ℕ). n - z) kept-shift ∙ sym (mod-eq-sub-div-mul n (2 ^ k))

  half_is : 1 * 2 ^ (k - 1) % 2 ^ 64 ≡ 2 ^ (k - 1)
  half_is = ap (λ (z : ℕ). z % 2 ^ 64) (one-mul (2 ^ (k - 1))) ∙ mod-eq_of_lt (pow-lt (go k k64))
    where
      go : (k : ℕ) → k < 64 → k - 1 < 64
      go k h = omega arith

  twice : 2 ^ k ≡ 2 ^ (k - 1) * 2
  twice = ap (λ (z : ℕ). 2 ^ z) (go k k1) ∙ pow-suc 2 (k - 1)
    where
      go : (k : ℕ) → 1 ≤ k → k ≡ suc (k - 1)
      go k h = omega arith

  pub shifts-down : n - n / 2 ^ k * 2 ^ k % 2 ^ 64 < 1 * 2 ^ (k - 1) % 2 ^ 64 → n / 2 ^ k ≡ closest n (2 ^ k)
  shifts-down h = sym (ap (λ (o : Ordering). nearest (n / 2 ^ k) o) (compare-lt (n % 2 ^ k * 2) (2 ^ k) (go (n % 2 ^ k) (2 ^ (k - 1)) (2 ^ k) (subst (λ (z : ℕ). z < 2 ^ (k - 1)) rest-is (subst (λ (z : ℕ). n - n / 2 ^ k * 2 ^ k % 2 ^ 64 < z) half_is h)) twice)))
    where
      go : (r h p : ℕ) → r < h → p ≡ h * 2 → r * 2 < p
      go r h p a b = omega arith

  pub shifts-up : 1 * 2 ^ (k - 1) % 2 ^ 64 < n - n / 2 ^ k * 2 ^ k % 2 ^ 64 → n / 2 ^ k + 1 ≡ closest n (2 ^ k)
  shifts-up h =
      native.Mathlib.Numerals.add-one (n / 2 ^ k)
      ∙ sym (ap (λ (o : Ordering). nearest (n / 2 ^ k) o) (compare-gt (n % 2 ^ k * 2) (2 ^ k) (go (n % 2 ^ k) (2 ^ (k - 1)) (2 ^ k) (subst (λ (z : ℕ). 2 ^ (k - 1) < z) rest-is (subst (λ (z : ℕ). z < n - n / 2 ^ k * 2 ^ k % 2 ^ 64) half_is h)) twice)))
    where
      go : (r h p : ℕ) → h < r → p ≡ h * 2 → p < r * 2
      go r h p a b = omega arith

  pub tie : 1 * 2 ^ (k - 1) % 2 ^ 64 ≤ n - n / 2 ^ k * 2 ^ k % 2 ^ 64 → n - n / 2 ^ k * 2 ^ k % 2 ^ 64 ≤ 1 * 2 ^ (k - 1) % 2 ^ 64 → n / 2 ^ k + n / 2 ^ k % 2 ≡ closest n (2 ^ k)
  tie a b =
      let e : n % 2 ^ k ≡ 2 ^ (k - 1) = sym rest-is ∙ le_antisymm b a ∙ half_is in
      sym (ap (λ (o : Ordering). nearest (n / 2 ^ k) o) (compare-eq (n % 2 ^ k * 2) (2 ^ k) (ap (λ (z : ℕ). z * 2) e ∙ sym twice)))

  -- it fits
  pub next_fits : n / 2 ^ k + 1 < 2 ^ 64
  next_fits = go (n / 2 ^ k) ((div-lt_iff_lt-mul (pow_pos k)).1 (lt_of_lt_of_le n64 (le_trans (le_of_eq (pw 63 1 64 refl)) (le_trans (mul-le-mul_left (2 ^ 63) (pow_mono k1)) (le_of_eq refl)))))
    where
      go : (a : ℕ) → a < 2 ^ 63 → a + 1 < 2 ^ 64
      go a h = omega arith
