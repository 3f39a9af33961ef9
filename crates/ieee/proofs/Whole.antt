-- To a whole number with two additions. In a format of p + 1 digits the numbers from 2 ^ p to 2 ^ (p + 1) are whole, so for a y between 0 and 2 ^ p the sum y + 2 ^ p is rounded to a whole number,
-- and t = (y + 2 ^ p) - 2 ^ p is the whole number nearest to y, a tie to the even one. A comparison of t with y then tells the floor, the ceiling and the round that takes a half away from zero.
-- Assumes nothing.
use Rattle.std.proofs.Common.{◌≡◌, ℕ, zero, suc, ◌+◌, ◌-◌, ◌*◌, ◌/◌, ◌%◌, ◌^◌, ◌<◌, ◌≤◌, Bool, true, false, cond, not, ◌&&◌, T, eqb, ltb, ◌⊎◌, pos, negsuc, sym, refl, ap, ◌∙◌, subst, inl, inr, true≢false, le_trans, le_of_eq, lt_of_lt_of_le, le_of_suc-le-suc, lt_of_le_of_lt, le_of_lt, mul-le-mul_right, mod-lt, zero-lt-suc, mul_assoc, suc-mul, mul_comm, div-lt_iff_lt-mul, add-mul, le_antisymm, mul-lt-mul_of_pos_right, mul-pos, one-mul, div-add-mod', le-div_iff_mul-le, mul-one, mul_right_comm, arith, lit<, eqb→eq, ltb→lt, nltb→le, T_not, pow_pos, pow_mono, pow-add}
use Prim.Native.Nat.{compare, Ordering}
use native.Mathlib.Nat.{add-mul-div_right, add-mul-mod_self_right}
use lib.Dec.{not_T}
use lib.Pow.{pow-lt}
use lib.Ieee.{Float, nan, inf, fin, Format, binary32, binary64, prec, emax, low, up, down, fits, lt, eq, round, units, odd, nearest, add, sub, of_int}
use lib.Ieee.Fits.{down_pos, and_l, and_r, nearest-le, round_is}
use lib.Ieee.Exact.{HasValue, units_val, odd_sign}
use lib.Ieee.Nearest.{closest, closest_same}
use lib.Ieee.Positive.{num, den, den_pos}
use Rattle.ieee.proofs.Tests.{null, two_to, a_half}
use Rattle.ieee.proofs.Value.{fits_lt, add-values, sub-values, sub-under, lt-values, eq-values, revalue, fraction-exact, den-power, whole-value, two-to-value, add-whole, sub-whole}
use Rattle.ieee.proofs.Build.{InUnits, round-at}

not-under : {a b : ℕ} → (a < b → ⊥) → b ≤ a
not-under {a} {b} h = omega arith

pub either : (a b : ℕ) → (b < a) ⊎ (a ≤ b)
either a b = go (ltb b a) (ltb→lt b a) (nltb→le b a)
  where
    go : (x : Bool) → (T x → b < a) → (T (not x) → a ≤ b) → (b < a) ⊎ (a ≤ b)
    go true h g = inl (h tt)
    go false h g = inr (g tt)

-- ---- the nearest whole number of a / c is its whole part w or w + 1
abbrev pub Near : ℕ → ℕ → ℕ → Type 0
Near a c q = ((q ≡ a / c) × (a % c * 2 ≤ c)) ⊎ ((q ≡ suc (a / c)) × (c ≤ a % c * 2))

pub near : (a c : ℕ) → Near a c (closest a c)
near a c = go (compare (a % c * 2) c) (lib.Dec.leb→le (a % c * 2) c) (lib.Dec.nleb→lt (a % c * 2) c) (eqb→eq (a % c * 2) c)
  where
    even : (w : ℕ) → w % 2 < 2 → (w + w % 2 ≡ w) ⊎ (w + w % 2 ≡ suc w)
    even w h = pick (w % 2) h
      where
        pick : (r : ℕ) → r < 2 → (w + r ≡ w) ⊎ (w + r ≡ suc w)
        pick zero h = inl (native.Mathlib.Nat.add-zero w)
        pick (suc zero) h = inr (native.Mathlib.Numerals.add-one w)
        pick (suc (suc r)) h = absurd (big r h)
          where
            big : (r : ℕ) → suc (suc r) < 2 → ⊥
            big r h = omega arith

    tie : (a % c * 2 ≡ c) → (a / c + a / c % 2 ≡ a / c) ⊎ (a / c + a / c % 2 ≡ suc (a / c)) → Near a c (a / c + a / c % 2)
    tie e (inl p) = inl (p, le_of_eq e)
    tie e (inr p) = inr (p, le_of_eq (sym e))

    go : (o : Ordering) → (T (lib.Dec.is_le o) → a % c * 2 ≤ c) → (T (not (lib.Dec.is_le o)) → c < a % c * 2) → (T (lib.Dec.compare_is_eq o) → a % c * 2 ≡ c) → Near a c (nearest (a / c) o)
    go Ordering.lt h g e = inl (refl, h tt)
    go Ordering.eq h g e = tie (e tt) (even (a / c) (mod-lt (a / c) (zero-lt-suc 1)))
    go Ordering.gt h g e = inr (refl, le_of_lt (g tt))

-- a quotient by its bounds
pub div_is : (n d q : ℕ) → 0 < d → q * d ≤ n → n < q * d + d → n / d ≡ q
div_is n d q D l h = le_antisymm (le_of_suc-le-suc ((div-lt_iff_lt-mul {k = d} {x = n} {y = suc q} D).1 (lt_of_lt_of_le h (le_of_eq (sym (suc-mul q d)))))) ((le-div_iff_mul-le D).1 l)

module _ (a c q : ℕ) (C : 0 < c) (h : Near a c q) where
  parts : a / c * c + a % c ≡ a
  parts = div-add-mod' a c

  rest : a % c < c
  rest = mod-lt a C

  pub cut_down : a < q * c → a / c ≡ q - 1
  cut_down l = go h
    where
      over : (w c r a : ℕ) → w * c + r ≡ a → a < w * c → ⊥
      over w c r a e l = omega arith

      go : Near a c q → a / c ≡ q - 1
      go (inl k) = absurd (over (a / c) c (a % c) a parts (subst (λ (z : ℕ). a < z * c) k.0 l))
      go (inr k) = sym (ap (λ (z : ℕ). z - 1) k.0 ∙ less (a / c))
        where
          less : (w : ℕ) → suc w - 1 ≡ w
          less w = omega arith

  pub cut-keep : q * c ≤ a → a / c ≡ q
  cut-keep l = go h
    where
      over : (wc c r a : ℕ) → wc + r ≡ a → r < c → wc + c ≤ a → ⊥
      over wc c r a e g l = omega arith

      go : Near a c q → a / c ≡ q
      go (inl k) = sym k.0
      go (inr k) = absurd (over (a / c * c) c (a % c) a parts rest (subst (λ (z : ℕ). z ≤ a) (ap (λ (z : ℕ). z * c) k.0 ∙ suc-mul (a / c) c) l))

  pub ceil-up : q * c < a → (a + (c - 1)) / c ≡ q + 1
  ceil-up l = go h
    where
      low_end : (qc r a c : ℕ) → 0 < c → qc < a → qc + r ≡ a → qc + c ≤ a + (c - 1)
      low_end qc r a c C l e = omega arith

      high_end : (qc r a c : ℕ) → 0 < c → r < c → qc + r ≡ a → a + (c - 1) < qc + c + c
      high_end qc r a c C g e = omega arith

      over : (wc c r a : ℕ) → wc + r ≡ a → r < c → wc + c < a → ⊥
      over wc c r a e g l = omega arith

      next : (q : ℕ) → (q + 1) * c ≡ q * c + c
      next q = add-mul q 1 c ∙ ap (λ (z : ℕ). q * c + z) (one-mul c)

      go : Near a c q → (a + (c - 1)) / c ≡ q + 1
      go (inl k) =
          let e : q * c + a % c ≡ a = ap (λ (z : ℕ). z * c + a % c) k.0 ∙ parts in
          div_is (a + (c - 1)) c (q + 1) C (subst (λ (z : ℕ). z ≤ a + (c - 1)) (sym (next q)) (low_end (q * c) (a % c) a c C l e)) (subst (λ (z : ℕ). a + (c - 1) < z + c) (sym (next q)) (high_end (q * c) (a % c) a c C rest e))
      go (inr k) = absurd (over (a / c * c) c (a % c) a parts rest (subst (λ (z : ℕ). z < a) (ap (λ (z : ℕ). z * c) k.0 ∙ suc-mul (a / c) c) l))

  pub ceil-keep : a ≤ q * c → (a + (c - 1)) / c ≡ q
  ceil-keep l = go h
    where
      low-1 : (qc r a c : ℕ) → 0 < c → qc + r ≡ a → qc ≤ a + (c - 1)
      low-1 qc r a c C e = omega arith

      high-1 : (qc r a c : ℕ) → 0 < c → a ≤ qc → a + (c - 1) < qc + c
      high-1 qc r a c C l = omega arith

      low-2 : (wc r a c : ℕ) → 0 < c → wc + r ≡ a → c ≤ r * 2 → wc + c ≤ a + (c - 1)
      low-2 wc r a c C e g = omega arith

      go : Near a c q → (a + (c - 1)) / c ≡ q
      go (inl k) =
          let e : q * c + a % c ≡ a = ap (λ (z : ℕ). z * c + a % c) k.0 ∙ parts in
          div_is (a + (c - 1)) c q C (low-1 (q * c) (a % c) a c C e) (high-1 (q * c) (a % c) a c C l)
      go (inr k) =
          let e : q * c ≡ a / c * c + c = ap (λ (z : ℕ). z * c) k.0 ∙ suc-mul (a / c) c in
          div_is (a + (c - 1)) c q C (subst (λ (z : ℕ). z ≤ a + (c - 1)) (sym e) (low-2 (a / c * c) (a % c) a c C parts k.1)) (high-1 (q * c) (a % c) a c C l)

  -- 2 * q * c
  twice : (q : ℕ) → q * (2 * c) ≡ q * c * 2
  twice q = ap (λ (z : ℕ). q * z) (mul_comm 2 c) ∙ sym (mul_assoc q c 2)

  pub half_up : q * c * 2 + c ≡ a * 2 → (2 * a + c) / (2 * c) ≡ q + 1
  half_up l = div_is (2 * a + c) (2 * c) (q + 1) (mul-pos (zero-lt-suc 1) C) (subst (λ (z : ℕ). z ≤ 2 * a + c) (sym (next q)) (low_end (q * c) a c l)) (subst (λ (z : ℕ). 2 * a + c < z + 2 * c) (sym (next q)) (high_end (q * c) a c C l))
    where
      next : (q : ℕ) → (q + 1) * (2 * c) ≡ q * c * 2 + 2 * c
      next q = add-mul q 1 (2 * c) ∙ (λ i. twice q i + one-mul (2 * c) i)

      low_end : (qc a c : ℕ) → qc * 2 + c ≡ a * 2 → qc * 2 + 2 * c ≤ 2 * a + c
      low_end qc a c e = omega arith

      high_end : (qc a c : ℕ) → 0 < c → qc * 2 + c ≡ a * 2 → 2 * a + c < qc * 2 + 2 * c + 2 * c
      high_end qc a c C e = omega arith

  pub half-keep : (q * c * 2 + c ≡ a * 2 → ⊥) → (2 * a + c) / (2 * c) ≡ q
  half-keep n = go h
    where
      low-1 : (qc r a c : ℕ) → qc + r ≡ a → qc * 2 ≤ 2 * a + c
      low-1 qc r a c e = omega arith

      high-1 : (qc r a c : ℕ) → qc + r ≡ a → r * 2 ≤ c → (qc * 2 + c ≡ a * 2 → ⊥) → 2 * a + c < qc * 2 + 2 * c
      high-1 qc r a c e g n = omega arith

      low-2 : (wc r a c : ℕ) → wc + r ≡ a → c ≤ r * 2 → (wc + c) * 2 ≤ 2 * a + c
      low-2 wc r a c e g = omega arith

      high-2 : (wc r a c : ℕ) → wc + r ≡ a → r < c → 2 * a + c < (wc + c) * 2 + 2 * c
      high-2 wc r a c e g = omega arith

      go : Near a c q → (2 * a + c) / (2 * c) ≡ q
      go (inl k) =
          let e : q * c + a % c ≡ a = ap (λ (z : ℕ). z * c + a % c) k.0 ∙ parts in
          div_is (2 * a + c) (2 * c) q (mul-pos (zero-lt-suc 1) C) (subst (λ (z : ℕ). z ≤ 2 * a + c) (sym (twice q)) (low-1 (q * c) (a % c) a c e)) (subst (λ (z : ℕ). 2 * a + c < z + 2 * c) (sym (twice q)) (high-1 (q * c) (a % c) a c e k.1 n))
      go (inr k) =
          let e : q * (2 * c) ≡ (a / c * c + c) * 2 = twice q ∙ ap (λ (z : ℕ). z * 2) (ap (λ (z : ℕ). z * c) k.0 ∙ suc-mul (a / c) c) in
          div_is (2 * a + c) (2 * c) q (mul-pos (zero-lt-suc 1) C) (subst (λ (z : ℕ). z ≤ 2 * a + c) (sym e) (low-2 (a / c * c) (a % c) a c parts k.1)) (subst (λ (z : ℕ). 2 * a + c < z + 2 * c) (sym e) (high-2 (a / c * c) (a % c) a c parts rest))

-- ---- a multiple of 2 * c added to a
nearest-past : (w b : ℕ) (o : Ordering) → nearest (w + b * 2) o ≡ nearest w o + b * 2
nearest-past w b Ordering.lt = refl
nearest-past w b Ordering.eq = go w b
  where
    go : (w b : ℕ) → w + b * 2 + (w + b * 2) % 2 ≡ w + w % 2 + b * 2
    go w b = omega arith
nearest-past w b Ordering.gt = go w b
  where
    go : (w b : ℕ) → suc (w + b * 2) ≡ suc w + b * 2
    go w b = omega arith

pub closest-past : (a c b : ℕ) → 0 < c → closest (a + b * 2 * c) c ≡ closest a c + b * 2
closest-past a c b C =
    (λ i. nearest (add-mul-div_right a (b * 2) C i) (compare (add-mul-mod_self_right a (b * 2) c i * 2) c))
    ∙ nearest-past (a / c) b (compare (a % c * 2) c)

-- ---- y + 2 ^ p
half-top : (f : Format) → (b : ℕ) × (2 ^ (prec f - 1) ≡ b * 2) × (2 ^ (prec f - 1) + 2 ^ (prec f - 1) ≡ 2 ^ prec f)
half-top binary32 = (2 ^ 22, refl, refl)
half-top binary64 = (2 ^ 51, refl, refl)

module _ (f : Format) (y : Float) (a c : ℕ) (C : 0 < c) (v : HasValue y false a c) (small : a < 2 ^ (prec f - 1) * c) where
  abbrev P : ℕ
  P = 2 ^ (prec f - 1)

  pub few : closest a c ≤ 2 ^ (prec f - 1)
  few = le_trans (nearest-le (a / c) (compare (a % c * 2) c)) ((div-lt_iff_lt-mul C).1 small)

  in-units : InUnits f ((a + P * c) * 2 ^ low f) c (low f)
  in-units = (
    inr (le_trans (le_of_eq (ap (λ (z : ℕ). z * c) (pow-add 2 (prec f - 1) (low f)) ∙ mul_right_comm P (2 ^ low f) c)) (mul-le-mul_right (2 ^ low f) (more a (P * c)))),
    lt_of_lt_of_le (mul-lt-mul_of_pos_right (under a (P * c) small) (pow_pos (low f)))
        (le_of_eq (ap (λ (z : ℕ). z * 2 ^ low f) (sym (add-mul P P c) ∙ ap (λ (z : ℕ). z * c) (half-top f).2) ∙ mul_right_comm (2 ^ prec f) c (2 ^ low f) ∙ ap (λ (z : ℕ). z * c) (sym (pow-add 2 (prec f) (low f))))),
  )
    where
      more : (a b : ℕ) → b ≤ a + b
      more a b = omega arith

      under : (a b : ℕ) → a < b → a + b < b + b
      under a b h = omega arith

  pub raised : add f y (two_to (prec f - 1)) ≡ units f false (closest a c + P) (low f)
  raised =
      add-values f y (two_to (prec f - 1)) a c P 1 C (zero-lt-suc 0) v (two-to-value (prec f - 1))
      ∙ (λ i. round f false (mul-one a i + P * c) (mul-one c i))
      ∙ round-at f false (a + P * c) c (low f) C in-units
      ∙ ap (λ (q : ℕ). units f false q (low f))
      (closest_same ((a + P * c) * 2 ^ low f) (c * 2 ^ low f) (a + P * c) c (mul-pos C (pow_pos (low f))) C (mul_right_comm (a + P * c) (2 ^ low f) c ∙ mul_assoc (a + P * c) c (2 ^ low f))
      ∙ ap (λ (z : ℕ). closest (a + z * c) c) (half-top f).1
      ∙ closest-past a c (half-top f).0 C
      ∙ ap (λ (z : ℕ). closest a c + z) (sym (half-top f).1))

  raised-value : HasValue (add f y (two_to (prec f - 1))) false (closest a c + P) 1
  raised-value =
      subst (λ (z : Float). HasValue z false (closest a c + P) 1) (sym raised)
      (revalue (units f false (closest a c + P) (low f)) false ((closest a c + P) * 2 ^ low f) (2 ^ low f) (closest a c + P) 1 (pow_pos (low f)) (mul-one ((closest a c + P) * 2 ^ low f))
      (units_val f false (closest a c + P) (low f)
      (lt_of_le_of_lt (mul-le-mul_right (2 ^ low f) (le_trans (up2 (closest a c) P few) (le_of_eq (half-top f).2))) (lt_of_le_of_lt (le_of_eq (sym (pow-add 2 (prec f) (low f)))) (pow-lt (room f))))))
    where
      up2 : (q p : ℕ) → q ≤ p → q + p ≤ p + p
      up2 q p h = omega arith

      room : (f : Format) → prec f + low f < low f + suc (emax f)
      room binary32 = lit< tt
      room binary64 = lit< tt

  pub lowered : sub f (add f y (two_to (prec f - 1))) (two_to (prec f - 1)) ≡ of_int f (pos (closest a c))
  lowered =
      sub-whole f (add f y (two_to (prec f - 1))) (two_to (prec f - 1)) (closest a c + P) P raised-value (two-to-value (prec f - 1)) (more (closest a c) P)
      ∙ ap (λ (z : ℕ). of_int f (pos z)) (less (closest a c) P)
    where
      more : (q p : ℕ) → p ≤ q + p
      more q p = omega arith

      less : (q p : ℕ) → q + p - p ≡ q
      less q p = omega arith

-- ---- a negative number is not a half
no-half : (f : Format) (n d : ℕ) → T (not (eq (round f true n d) a_half))
unfolding eq units
no-half f n d = subst (λ (z : Float). T (not (eq z a_half))) (sym (round_is f true n d)) (go _ _)
  where
    none : (x : Float) (a c : ℕ) → HasValue x true a c → T (not (eq x a_half))
    none nan a c v = absurd v
    none (inf s) a c v = absurd v
    none (fin false m e) a c v = absurd (true≢false (sym v.0))
    none (fin true m e) a c v =
        let x = m * up e * 2 in
        let y = 1 * 1 * down e in
        not_T (eqb x y && eqb x 0) (λ t. clash x (down e) (down_pos e) (eqb→eq x y (and_l (eqb x y) (eqb x 0) t)) (eqb→eq x 0 (and_r (eqb x y) (eqb x 0) t)))
      where
        clash : (x d : ℕ) → 0 < d → x ≡ 1 * 1 * d → x ≡ 0 → ⊥
        clash x d h e z = omega arith

    go : (q k : ℕ) → T (not (eq (units f true q k) a_half))
    go q k = at (ltb (q * 2 ^ k) (2 ^ (low f + suc (emax f))))
      where
        at : (b : Bool) → T (not (eq (cond b (odd (suc (prec f)) true q k (low f)) (inf true)) a_half))
        at true = none (odd (suc (prec f)) true q k (low f)) (q * 2 ^ k) (2 ^ low f) (odd_sign (suc (prec f)) true q k (low f))
        at false = tt

-- ---- the answers, for a y above 0 and below 2 ^ p
pub own : (y : Float) → T (lt null y) → (w : ℕ) → T (lt y (two_to w)) → HasValue y false (num y) (den y) × (num y < 2 ^ w * den y)
unfolding lt
own nan A w B = absurd A
own (inf true) A w B = absurd A
own (inf false) A w B = absurd B
own (fin true m e) A w B = absurd A
own (fin false m e) A w B = ((refl, refl), subst (λ (z : ℕ). m * up e < z * down e) (one-mul (2 ^ w)) (subst (λ (z : ℕ). z < 1 * 2 ^ w * down e) (mul-one (m * up e)) (ltb→lt (m * up e * 1) (1 * 2 ^ w * down e) B)))

exact-parts : (f : Format) (y : Float) (w : ℕ) → T (fits f y) → T (lt null y) → T (lt y (two_to w)) → w < prec f → (num y < 2 ^ prec f) × ((k : ℕ) × (den y ≡ 2 ^ k) × (k ≤ low f))
exact-parts f nan w F A B W = unfold lt in absurd A
exact-parts f (inf true) w F A B W = unfold lt in absurd A
exact-parts f (inf false) w F A B W = unfold lt in absurd B
exact-parts f (fin true m e) w F A B W = unfold lt in absurd A
exact-parts f (fin false m (negsuc k)) w F A B W = (subst (λ (z : ℕ). z < 2 ^ prec f) (sym (mul-one m)) (fits_lt f false m (negsuc k) F), den-power f false m (negsuc k) F)
exact-parts f (fin false m (pos k)) w F A B W =
    (lt_of_lt_of_le (subst (λ (z : ℕ). m * 2 ^ k < z) (mul-one (2 ^ w)) (own (fin false m (pos k)) A w B).1) (pow_mono (le_of_lt W)), den-power f false m (pos k) F)

module _ (f : Format) (y : Float) (F : T (fits f y)) (A : T (lt null y)) (B : T (lt y (two_to (prec f - 1)))) where
  abbrev pub t : Float
  t = sub f (add f y (two_to (prec f - 1))) (two_to (prec f - 1))

  abbrev q : ℕ
  q = closest (num y) (den y)

  v : HasValue y false (num y) (den y)
  v = (own y A (prec f - 1) B).0

  small : num y < 2 ^ (prec f - 1) * den y
  small = (own y A (prec f - 1) B).1

  is : t ≡ of_int f (pos q)
  is = lowered f y (num y) (den y) (den_pos y) v small

  half_le : (f : Format) → 2 ^ (prec f - 1) ≤ 2 ^ prec f
  half_le f = pow_mono (go (prec f))
    where
      go : (p : ℕ) → p - 1 ≤ p
      go p = omega arith

  t-value : HasValue t false q 1
  t-value = subst (λ (z : Float). HasValue z false q 1) (sym is) (whole-value f q (le_trans (few f y (num y) (den y) (den_pos y) v small) (half_le f)))

  -- y < t, t < y
  under : (T (lt y t) → num y * 1 < q * den y) × (num y * 1 < q * den y → T (lt y t))
  under = lt-values f y t (num y) (den y) q 1 (den_pos y) (zero-lt-suc 0) v t-value

  over : (T (lt t y) → q * den y < num y * 1) × (q * den y < num y * 1 → T (lt t y))
  over = lt-values f t y q 1 (num y) (den y) (zero-lt-suc 0) (den_pos y) t-value v

  flat : {n : ℕ} → num y * 1 < n → num y < n
  flat {n} h = subst (λ (z : ℕ). z < n) (mul-one (num y)) h

  unflat : {n : ℕ} → num y < n → num y * 1 < n
  unflat {n} h = subst (λ (z : ℕ). z < n) (sym (mul-one (num y))) h

  at_least : T (not (lt y t)) → q * den y ≤ num y
  at_least h = not-under (λ (g : num y < q * den y). T_not (lt y t) h (under.1 (unflat g)))

  at_most : T (not (lt t y)) → num y ≤ q * den y
  at_most h = not-under (λ (g : q * den y < num y). T_not (lt t y) h (over.1 (subst (λ (z : ℕ). q * den y < z) (sym (mul-one (num y))) g)))

  pub floor-down : T (lt y t) → sub f t (two_to 0) ≡ of_int f (pos (num y / den y))
  floor-down h =
      let l : num y < q * den y = flat (under.0 h) in
      sub-whole f t (two_to 0) q 1 t-value (refl, refl) (some q (den y) l)
      ∙ ap (λ (z : ℕ). of_int f (pos z)) (sym (cut_down (num y) (den y) q (den_pos y) (near (num y) (den y)) l))
    where
      some : (q d : ℕ) {n : ℕ} → n < q * d → 1 ≤ q
      some zero d {n} h = absurd (none (native.Mathlib.Nat.lt_of_lt_of_le h (le_of_eq (native.Mathlib.Nat.zero-mul d))))
        where
          none : n < 0 → ⊥
          none h = omega arith
      some (suc q) d h = (native.Mathlib.Nat.suc-le-suc_iff).1 Prim.Native.Nat.zero-le

  pub floor-keep : T (not (lt y t)) → t ≡ of_int f (pos (num y / den y))
  floor-keep h = is ∙ ap (λ (z : ℕ). of_int f (pos z)) (sym (cut-keep (num y) (den y) q (den_pos y) (near (num y) (den y)) (at_least h)))

  up1 : add f t (two_to 0) ≡ of_int f (pos (q + 1))
  up1 = add-whole f t (two_to 0) q 1 t-value (refl, refl)

  pub ceil-raise : T (lt t y) → add f t (two_to 0) ≡ of_int f (pos ((num y + (den y - 1)) / den y))
  ceil-raise h =
      up1
      ∙ ap (λ (z : ℕ). of_int f (pos z)) (sym (ceil-up (num y) (den y) q (den_pos y) (near (num y) (den y)) (subst (λ (z : ℕ). q * den y < z) (mul-one (num y)) (over.0 h))))

  pub ceil-stays : T (not (lt t y)) → t ≡ of_int f (pos ((num y + (den y - 1)) / den y))
  ceil-stays h = is ∙ ap (λ (z : ℕ). of_int f (pos z)) (sym (ceil-keep (num y) (den y) q (den_pos y) (near (num y) (den y)) (at_most h)))

  -- y - t is a half exactly where y is half way up from t
  exact : (n : ℕ) → n ≤ num y → HasValue (round f false n (den y)) false n (den y)
  exact n h =
      let k = exact-parts f y (prec f - 1) F A B (less f) in
      subst (λ (d : ℕ). HasValue (round f false n d) false n d) (sym k.1.1) (fraction-exact f false n k.1.0 (lt_of_le_of_lt h k.0) k.1.2)
    where
      less : (f : Format) → prec f - 1 < prec f
      less binary32 = lit< tt
      less binary64 = lit< tt

  over-value : q * den y ≤ num y → HasValue (sub f y t) false (num y - q * den y) (den y)
  over-value h =
      subst (λ (z : Float). HasValue z false (num y - q * den y) (den y))
      (sym
      (sub-values f y t (num y) (den y) q 1 (den_pos y) (zero-lt-suc 0) v t-value (subst (λ (z : ℕ). q * den y ≤ z) (sym (mul-one (num y))) h)
      ∙ (λ i. round f false (mul-one (num y) i - q * den y) (mul-one (den y) i))))
      (exact (num y - q * den y) (part (num y) (q * den y)))
    where
      part : (a b : ℕ) → a - b ≤ a
      part a b = omega arith

  pub half-raise : T (eq (sub f y t) a_half) → add f t (two_to 0) ≡ of_int f (pos ((2 * num y + den y) / (2 * den y)))
  half-raise h = up1 ∙ ap (λ (z : ℕ). of_int f (pos z)) (sym (half_up (num y) (den y) q (den_pos y) (near (num y) (den y)) (tie (either (q * den y) (num y)))))
    where
      join : (a b c : ℕ) → b ≤ a → (a - b) * 2 ≡ 1 * c → b * 2 + c ≡ a * 2
      join a b c h e = omega arith

      tie : (num y < q * den y) ⊎ (q * den y ≤ num y) → q * den y * 2 + den y ≡ num y * 2
      tie (inl l) = absurd (T_not (eq (sub f y t) a_half) (subst (λ (z : Float). T (not (eq z a_half))) (sym (sub-under f y t (num y) (den y) q 1 (den_pos y) (zero-lt-suc 0) v t-value (unflat l))) (no-half f (q * den y - num y * 1) (den y * 1))) h)
      tie (inr l) = join (num y) (q * den y) (den y) l ((eq-values f (sub f y t) a_half (num y - q * den y) (den y) 1 2 (den_pos y) (zero-lt-suc 1) (over-value l) (refl, refl)).0 h)

  pub half-stays : T (not (eq (sub f y t) a_half)) → t ≡ of_int f (pos ((2 * num y + den y) / (2 * den y)))
  half-stays h = is ∙ ap (λ (z : ℕ). of_int f (pos z)) (sym (half-keep (num y) (den y) q (den_pos y) (near (num y) (den y)) tie))
    where
      under-it : (a b c : ℕ) → b * 2 + c ≡ a * 2 → b ≤ a
      under-it a b c e = omega arith

      part : (a b c : ℕ) → b * 2 + c ≡ a * 2 → (a - b) * 2 ≡ 1 * c
      part a b c e = omega arith

      tie : q * den y * 2 + den y ≡ num y * 2 → ⊥
      tie e = T_not (eq (sub f y t) a_half) h ((eq-values f (sub f y t) a_half (num y - q * den y) (den y) 1 2 (den_pos y) (zero-lt-suc 1) (over-value (under-it (num y) (q * den y) (den y) e)) (refl, refl)).1 (part (num y) (q * den y) (den y) e))
