-- The remainder by whole numbers of the smallest f32.
use Rattle.std.proofs.Common.{◌≡◌, ℕ, zero, suc, ◌+◌, ◌-◌, ◌*◌, ◌/◌, ◌%◌, ◌^◌, ◌<◌, ◌≤◌, Bool, true, false, cond, not, T, eqb, ◌⊎◌, pos, sym, refl, ap, ◌∙◌, subst, inl, inr, le_trans, le_of_eq, lt_of_lt_of_le, lt_irrefl, zero-lt-suc, mul_assoc, mul-pos, mul-div_cancel, lt_trans, le_of_lt, mul_right_comm, zero-mul, one-mul, mod-lt, mod-eq_of_lt, mul-le-mul_right, div-lt_iff_lt-mul, arith, min, lt_of_not-le, lit<, lit≤, eqb→eq, ltb→lt, nltb→le, pow_pos, pow_mono, pow-add, shl_lt}
use lib.Dec.{not_T}
use lib.Count.{count_leading_zeros, leading_top}
use native.Mathlib.Nat.{mul-mod_left}
use lib.Ieee.{Float, nan, inf, fin, Format, binary32, up, down, fits, neg, lt, rem, round, units, to_bits}
use lib.Ieee.Fits.{up_pos, down_pos}
use lib.Ieee.Exact.{HasValue, units_val}
use lib.Ieee.Scale.{round_same}
use Rattle.ieee.proofs.Tests.{null, cond_no}
use Rattle.ieee.proofs.Value.{value-self}
use Rattle.ieee.proofs.Build.{units-fits, pw}
use Rattle.ieee.proofs.Read.{Seen, seen, neg-round, level, nothing-below}
use Rattle.float.specs.Order.{abs_of}
use Rattle.float.specs.Remainder.{digits_of}
use Rattle.float.proofs.Euclid.{rem-under, pos-first}

-- ---- whole numbers
pub shifted-step : (a k l m : ℕ) → (a * 2 ^ k % m) * 2 ^ l % m ≡ a * 2 ^ (k + l) % m
shifted-step a k l m =
    Rattle.std.proofs.lemmas.Nat.mul-mod_first (a * 2 ^ k) (2 ^ l) m
    ∙ ap (λ (z : ℕ). z % m) (mul_assoc a (2 ^ k) (2 ^ l) ∙ ap (λ (z : ℕ). a * z) (sym (pow-add 2 k l)))

pub common-step : (a b k : ℕ) → 0 < b → 0 < k → (a % b) * k ≡ a * k % (b * k)
common-step a b k B K =
    sym (lib.Arith.mod-mul (a * k) B K ∙ (λ i. (mul-div_cancel a K i % b) * k + mul-mod_left a k i) ∙ plain ((a % b) * k))
  where
    plain : (n : ℕ) → n + 0 ≡ n
    plain n = omega arith

-- ---- forty digits at a time: k times of n / 40
pub shifted-on : (r k a n m : ℕ) → 0 < m → m < 2 ^ 24 → r < 2 ^ 24 → k < n / 40 → r * 2 ^ (n - 40 * k) % m ≡ a * 2 ^ n % m
    → (r * 2 ^ 40 % 2 ^ 64 % m < 2 ^ 24) × ((r * 2 ^ 40 % 2 ^ 64 % m) * 2 ^ (n - 40 * (k + 1)) % m ≡ a * 2 ^ n % m)
shifted-on r k a n m M N R K e = (
  lt_trans (mod-lt (r * 2 ^ 40 % 2 ^ 64) M) N,
  ap (λ (z : ℕ). (z % m) * 2 ^ (n - 40 * (k + 1)) % m) (mod-eq_of_lt (shl_lt 24 40 R))
      ∙ shifted-step r 40 (n - 40 * (k + 1)) m
      ∙ ap (λ (z : ℕ). r * 2 ^ z % m) back
      ∙ e,
)
  where
    back : 40 + (n - 40 * (k + 1)) ≡ n - 40 * k
    back = omega arith

pub shifted-last : (r a n m : ℕ) → r < 2 ^ 24 → r * 2 ^ (n - 40 * (n / 40)) % m ≡ a * 2 ^ n % m → r * 2 ^ (n % 40) % 2 ^ 64 % m ≡ a * 2 ^ n % m
shifted-last r a n m R e = ap (λ (z : ℕ). z % m) (mod-eq_of_lt (lt_of_lt_of_le (shl_lt 24 (n % 40) R) (pow_mono {i = 24 + n % 40} {j = 64} room))) ∙ ap (λ (z : ℕ). r * 2 ^ z % m) left ∙ e
  where
    room : 24 + n % 40 ≤ 64
    room = omega arith

    left : n % 40 ≡ n - 40 * (n / 40)
    left = omega arith

-- ---- q doubled d times, until it has 24 digits or nothing of 2 ^ k is left
pub record Doubled (q k d : ℕ) : Type 0 where
  pub kept : (k - d ≡ 0) ⊎ (2 ^ 23 ≤ q * 2 ^ d % 2 ^ 64)
  pub small : q * 2 ^ d % 2 ^ 64 < 2 ^ 24
  pub same : q * 2 ^ d % 2 ^ 64 * 2 ^ (k - d) ≡ q * 2 ^ k

digits-few : (q j : ℕ) → q < 2 ^ 24 → 2 ^ j ≤ q → j < 24
digits-few q j h l = lt_of_not-le (λ (g : 24 ≤ j). lt_irrefl q (lt_of_lt_of_le h (le_trans (pow_mono g) l)))

pub few : (q : ℕ) → 0 < q → q < 2 ^ 24 → 40 ≤ count_leading_zeros 64 q
few q Q h = let l = leading_top 64 q Q (lt_of_lt_of_le h (lit≤ tt)) in omega (arith, l.1, digits-few q l.0 h l.2)

module _ (q k d j z : ℕ) (h : q < 2 ^ 24) (least : 2 ^ j ≤ q) (most : q < 2 ^ suc j) (counted : z + suc j ≡ 64) (e : d ≡ min (z - 40) k) where
  J : j < 24
  J = digits-few q j h least

  below : q * 2 ^ d < 2 ^ 24
  below = lt_of_lt_of_le (shl_lt (suc j) d most) (pow_mono {i = suc j + d} {j = 24} room)
    where
      room : suc j + d ≤ 24
      room = omega (arith, e, counted, J)

  whole-fits : q * 2 ^ d % 2 ^ 64 ≡ q * 2 ^ d
  whole-fits = mod-eq_of_lt (lt_of_lt_of_le below (lit≤ tt))

  back : d + (k - d) ≡ k
  back = omega (arith, e)

  either : (y : ℕ) → k - d ≡ y → (y ≡ 0) ⊎ (2 ^ 23 ≤ q * 2 ^ d % 2 ^ 64)
  either zero g = inl refl
  either (suc y) g = inr (subst (λ (w : ℕ). 2 ^ 23 ≤ w) (sym whole-fits) (le_trans (pow_mono {i = 23} {j = j + d} more) (le_trans (le_of_eq (pow-add 2 j d)) (mul-le-mul_right (2 ^ d) least))))
    where
      more : 23 ≤ j + d
      more = omega (arith, e, g, counted, J)

  doubled-by : Doubled q k d
  doubled-by = record {
    kept = either (k - d) refl;
    small = subst (λ (w : ℕ). w < 2 ^ 24) (sym whole-fits) below;
    same = ap (λ (w : ℕ). w * 2 ^ (k - d)) whole-fits ∙ mul_assoc q (2 ^ d) (2 ^ (k - d)) ∙ ap (λ (w : ℕ). q * w) (pw d (k - d) k back);
  }

pub doubled : (q k d : ℕ) → 0 < q → q < 2 ^ 24 → d ≡ min (count_leading_zeros 64 q - 40) k → Doubled q k d
doubled q k d Q h e = let l = leading_top 64 q Q (lt_of_lt_of_le h (lit≤ tt)) in doubled-by q k d l.0 (count_leading_zeros 64 q) h l.2 l.3 l.1 e

pub scaled-is : (p l n : ℕ) → p < 2 ^ 24 → l ≤ 253 → p * 2 ^ l ≡ n → units binary32 false p l ≡ round binary32 false n (2 ^ 149)
scaled-is p l n P L e =
    sym
    (ap (λ (z : ℕ). round binary32 false z (2 ^ 149)) (sym e)
    ∙ value-self binary32 (units binary32 false p l) false (p * 2 ^ l) (2 ^ 149) (pow_pos 149) (units-fits binary32 p l (le_of_lt P))
    (units_val binary32 false p l (lt_of_lt_of_le (shl_lt 24 l P) (pow_mono {i = 24 + l} {j = 277} (room l L)))))
  where
    room : (l : ℕ) → l ≤ 253 → 24 + l ≤ 277
    room l L = omega arith

no-units : null ≡ units binary32 false 0 0
unfolding units
no-units = refl

pub nothing : (q k : ℕ) → q ≡ 0 → null ≡ round binary32 false (q * 2 ^ k) (2 ^ 149)
nothing q k e = no-units ∙ scaled-is 0 0 (q * 2 ^ k) (lit< tt) (lit≤ tt) (sym (zero-mul (2 ^ k)) ∙ ap (λ (z : ℕ). z * 2 ^ k) (sym e))

-- ---- of a * 2 ^ i by b * 2 ^ j
powers : (a x y z : ℕ) → x + y ≡ z → a * 2 ^ x * 2 ^ y ≡ a * 2 ^ z
powers a x y z e = mul_assoc a (2 ^ x) (2 ^ y) ∙ ap (λ (z : ℕ). a * z) (pw x y z e)

pub upper : (a i b j : ℕ) → 0 < b → j ≤ i → (a * 2 ^ (i - j) % b) * 2 ^ j ≡ a * 2 ^ i % (b * 2 ^ j)
upper a i b j B h = common-step (a * 2 ^ (i - j)) b (2 ^ j) B (pow_pos j) ∙ ap (λ (z : ℕ). z % (b * 2 ^ j)) (powers a (i - j) j i (back i j h))
  where
    back : (i j : ℕ) → j ≤ i → i - j + j ≡ i
    back i j h = omega arith

pub lower : (a i b j : ℕ) → 0 < b → b < 2 ^ 24 → i < j → j - i < 24 → (a % (b * 2 ^ (j - i) % 2 ^ 64)) * 2 ^ i ≡ a * 2 ^ i % (b * 2 ^ j)
lower a i b j P B h l =
    let d = j - i in
    ap (λ (z : ℕ). (a % z) * 2 ^ i) (mod-eq_of_lt (lt_of_lt_of_le (shl_lt 24 d B) (pow_mono {i = 24 + d} {j = 64} (room d l))))
    ∙ common-step a (b * 2 ^ d) (2 ^ i) (mul-pos P (pow_pos d)) (pow_pos i)
    ∙ ap (λ (z : ℕ). a * 2 ^ i % z) (powers b d i j (back i j h))
  where
    room : (d : ℕ) → d < 24 → 24 + d ≤ 64
    room d l = omega arith

    back : (i j : ℕ) → i < j → j - i + i ≡ j
    back i j h = omega arith

pub far : (a i b j : ℕ) → a < 2 ^ 24 → 0 < b → i < j → 24 ≤ j - i → a * 2 ^ i ≡ a * 2 ^ i % (b * 2 ^ j)
far a i b j A P h l =
    sym (mod-eq_of_lt (lt_of_lt_of_le (shl_lt 24 i A) (le_trans (pow_mono {i = 24 + i} {j = j} (room i j h l)) (le_trans (le_of_eq (sym (one-mul (2 ^ j)))) (mul-le-mul_right (2 ^ j) P)))))
  where
    room : (i j : ℕ) → i < j → 24 ≤ j - i → 24 + i ≤ j
    room i j h l = omega arith

-- ---- the remainder of values
pub rem-values : (f : Format) (x y : Float) (s t : Bool) (A B c : ℕ) → 0 < c → 0 < B → HasValue x s A c → HasValue y t B c → rem f x y ≡ round f s (A % B) c
unfolding rem
rem-values f nan y s t A B c C P v w = absurd v
rem-values f (inf u) y s t A B c C P v w = absurd v
rem-values f (fin u m e) nan s t A B c C P v w = absurd w
rem-values f (fin u m e) (inf r) s t A B c C P v w = absurd w
rem-values f (fin u m e) (fin r n d) s t A B c C P v w =
    let p = m * up e * down d in
    let q = n * up d * down e in
    let D = down e * down d in
    let D-pos : 0 < D = mul-pos (down_pos e) (down_pos d) in
    let a : p * c ≡ A * D = mul_right_comm (m * up e) (down d) c ∙ ap (λ (z : ℕ). z * down d) v.1 ∙ mul_assoc A (down e) (down d) in
    let b : q * c ≡ B * D = mul_right_comm (n * up d) (down e) c ∙ ap (λ (z : ℕ). z * down e) w.1 ∙ mul_right_comm B (down d) (down e) ∙ mul_assoc B (down e) (down d) in
    let some : 0 < q * c = subst (λ (z : ℕ). 0 < z) (sym b) (mul-pos P D-pos) in
    let cross : (p % q) * c ≡ (A % B) * D = common-step p q c (left q c some) C ∙ (λ i. a i % b i) ∙ sym (common-step A B D P D-pos) in
    opened p q D (pos-first n (up d) (down e) (left q c some))
    ∙ round_same f u (p % q) D (A % B) c D-pos C cross
    ∙ ap (λ (z : Bool). round f z (A % B) c) v.0
  where
    left : (q c : ℕ) → 0 < q * c → 0 < q
    left zero c h = absurd (lt_irrefl 0 (subst (λ (z : ℕ). 0 < z) (zero-mul c) h))
    left (suc q) c h = zero-lt-suc q

    opened : (p q D : ℕ) → T (not (eqb n 0)) → cond (eqb n 0) nan (round f u (p % q) D) ≡ round f u (p % q) D
    opened p q D h = cond_no (eqb n 0) nan (round f u (p % q) D) h

-- ---- values by their patterns
value-some : (x : Float) (a c : ℕ) → HasValue x false a c → 0 < c → T (lt null x) → 0 < a
unfolding lt
value-some nan a c v C h = absurd v
value-some (inf s) a c v C h = absurd v
value-some (fin true m e) a c v C h = absurd h
value-some (fin false m e) zero c v C h =
    absurd (lt_irrefl 0 (subst (λ (z : ℕ). 0 < z) (v.1 ∙ zero-mul (down e)) (mul-pos (go (m * up e) (down e) (ltb→lt (0 * 1 * down e) (m * up e * 1) h)) C)))
  where
    go : (a d : ℕ) → 0 * 1 * d < a * 1 → 0 < a
    go a d h = omega arith
value-some (fin false m e) (suc a) c v C h = zero-lt-suc a

seen-value : (x : Float) (f t : ℕ) → (f ≡ 255 → ⊥) → Seen binary32 x f t → HasValue x false (cond (eqb f 0) t (2 ^ 23 + t) * 2 ^ (f - 1)) (2 ^ 149)
seen-value x f t n (inl v) = subst (λ (g : ℕ). HasValue x false (cond (eqb g 0) t (2 ^ 23 + t) * 2 ^ (g - 1)) (2 ^ 149)) (sym v.0) v.1
seen-value x f t n (inr (inl v)) =
    subst (λ (q : ℕ). HasValue x false (q * 2 ^ (f - 1)) (2 ^ 149)) (sym (lead f v.0 v.2)) (subst (λ (k : ℕ). HasValue x false ((2 ^ 23 + t) * 2 ^ k) (2 ^ 149)) (less f v.0 v.2) v.3)
  where
    none : (f j : ℕ) → f ≡ suc j → f ≡ 0 → ⊥
    none f j e z = omega arith

    lead : (f j : ℕ) → f ≡ suc j → cond (eqb f 0) t (2 ^ 23 + t) ≡ 2 ^ 23 + t
    lead f j e = cond_no (eqb f 0) t (2 ^ 23 + t) (not_T (eqb f 0) (λ h. none f j e (eqb→eq f 0 h)))

    less : (f j : ℕ) → f ≡ suc j → j ≡ f - 1
    less f j e = omega arith
seen-value x f t n (inr (inr v)) = absurd (n v.0)

seen-inf : (x : Float) (f t : ℕ) → f ≡ 255 → Seen binary32 x f t → x ≡ inf false
seen-inf x f t z (inl v) = absurd (go f v.0 z)
  where
    go : (f : ℕ) → f ≡ 0 → f ≡ 255 → ⊥
    go f a b = omega arith
seen-inf x f t z (inr (inl v)) = absurd (v.1 z)
seen-inf x f t z (inr (inr v)) = v.1

pub view : (x : Float) → T (fits binary32 x) → T (lt null x) → (to_bits binary32 x < 2 ^ 31) × Seen binary32 x (to_bits binary32 x / 2 ^ 23) (to_bits binary32 x % 2 ^ 23)
view x F h = seen binary32 x F h

pub is-inf : (x : Float) → T (fits binary32 x) → T (lt null x) → to_bits binary32 x / 2 ^ 23 ≡ 255 → x ≡ inf false
is-inf x F h e = seen-inf x (to_bits binary32 x / 2 ^ 23) (to_bits binary32 x % 2 ^ 23) e (view x F h).1

-- a finite float above zero
pub is-value : (x : Float) → T (fits binary32 x) → T (lt null x) → (to_bits binary32 x / 2 ^ 23 ≡ 255 → ⊥) → HasValue x false (digits_of (to_bits binary32 x) * 2 ^ (to_bits binary32 x / 2 ^ 23 - 1)) (2 ^ 149)
is-value x F h n = seen-value x (to_bits binary32 x / 2 ^ 23) (to_bits binary32 x % 2 ^ 23) n (view x F h).1

pub digits-lt : (b : ℕ) → digits_of b < 2 ^ 24
digits-lt b = go (eqb (b / 2 ^ 23) 0) (b % 2 ^ 23) (mod-lt b (pow_pos 23))
  where
    go : (z : Bool) (t : ℕ) → t < 2 ^ 23 → cond z t (2 ^ 23 + t) < 2 ^ 24
    go true t h = omega arith
    go false t h = omega arith

pub power-le : (b : ℕ) → b < 2 ^ 31 → (b / 2 ^ 23 ≡ 255 → ⊥) → b / 2 ^ 23 - 1 ≤ 253
power-le b h n = go (b / 2 ^ 23) ((div-lt_iff_lt-mul {k = 2 ^ 23} {x = b} {y = 256} (pow_pos 23)).1 h) n
  where
    go : (f : ℕ) → f < 256 → (f ≡ 255 → ⊥) → f - 1 ≤ 253
    go f h n = omega arith

pub digits-some : (x : Float) → T (fits binary32 x) → T (lt null x) → (to_bits binary32 x / 2 ^ 23 ≡ 255 → ⊥) → 0 < digits_of (to_bits binary32 x)
digits-some x F h n = go (digits_of (to_bits binary32 x)) (2 ^ (to_bits binary32 x / 2 ^ 23 - 1)) (value-some x _ (2 ^ 149) (is-value x F h n) (pow_pos 149) h)
  where
    go : (a k : ℕ) → 0 < a * k → 0 < a
    go zero k h = absurd (lt_irrefl 0 (subst (λ (z : ℕ). 0 < z) (zero-mul k) h))
    go (suc a) k h = zero-lt-suc a

-- ---- infinities
pub rem-inf : (f : Format) (x y : Float) → x ≡ inf false → nan ≡ rem f x y
rem-inf f x y e = sym (ap (λ (z : Float). rem f z y) e ∙ is)
  where
    is : rem f (inf false) y ≡ nan
    is = unfold rem in refl

pub rem-by-inf : (f : Format) (x y : Float) (s : Bool) (a c : ℕ) → HasValue x s a c → y ≡ inf false → x ≡ rem f x y
unfolding rem
rem-by-inf f x y s a c v e = go x v ∙ ap (λ (z : Float). rem f x z) (sym e)
  where
    go : (x : Float) → HasValue x s a c → x ≡ rem f x (inf false)
    go nan v = absurd v
    go (inf t) v = absurd v
    go (fin t m e) v = refl

-- ---- signs
pub rem-abs : (f : Format) (x y : Float) → rem f x (abs_of y) ≡ rem f x y
unfolding rem abs_of
rem-abs f nan y = refl
rem-abs f (inf s) y = refl
rem-abs f (fin s m e) nan = refl
rem-abs f (fin s m e) (inf t) = refl
rem-abs f (fin s m e) (fin t n d) = refl

pub rem-neg : (f : Format) (x y : Float) → T (lt x null) → neg (rem f (neg x) y) ≡ rem f x y
unfolding rem neg
rem-neg f nan y h = refl
rem-neg f (inf s) y h = refl
rem-neg f (fin false m e) y h = absurd (nothing-below (m * up e * 1) (down e) (ltb→lt (m * up e * 1) (0 * 1 * down e) (unfold lt in h)))
rem-neg f (fin true m e) nan h = refl
rem-neg f (fin true m e) (inf t) h = refl
rem-neg f (fin true m e) (fin t n d) h = go (eqb n 0) (m * up e * down d % (n * up d * down e)) (down e * down d)
  where
    go : (b : Bool) (a c : ℕ) → neg (cond b nan (round f false a c)) ≡ cond b nan (round f true a c)
    go true a c = refl
    go false a c = neg-round f a c

-- ---- zeros
pub rem-level : (f : Format) (x y : Float) → T (fits f x) → T (not (lt null x)) → T (not (lt x null)) → T (lt null (abs_of y)) → x ≡ rem f x y
rem-level f x y F a b h = go (level f x F a b)
  where
    zero-rem : (s : Bool) (y : Float) → T (fits f (fin s 0 (pos 0))) → T (lt null (abs_of y)) → rem f (fin s 0 (pos 0)) y ≡ fin s 0 (pos 0)
    zero-rem s nan G h = unfold lt abs_of in absurd h
    zero-rem s (inf t) G h = unfold rem in refl
    zero-rem s (fin t n d) G h = rem-under f s t 0 n (pos 0) d G (ltb→lt (0 * 1 * down d) (n * up d * 1) (unfold lt abs_of in h))

    nan-rem : nan ≡ rem f nan y
    nan-rem = unfold rem in refl

    go : ((s : Bool) × (x ≡ fin s 0 (pos 0))) ⊎ (x ≡ nan) → x ≡ rem f x y
    go (inl w) = w.1 ∙ sym (zero-rem w.0 y (subst (λ (z : Float). T (fits f z)) w.1 F) h) ∙ ap (λ (z : Float). rem f z y) (sym w.1)
    go (inr e) = e ∙ nan-rem ∙ ap (λ (z : Float). rem f z y) (sym e)

pub rem-none : (f : Format) (x y : Float) → T (not (lt null (abs_of y))) → nan ≡ rem f x y
unfolding rem
rem-none f nan y h = refl
rem-none f (inf s) y h = refl
rem-none f (fin s m e) nan h = refl
rem-none f (fin s m e) (inf t) h = unfold lt abs_of in absurd h
rem-none f (fin s m e) (fin t zero d) h = refl
rem-none f (fin s m e) (fin t (suc n) d) h = absurd (go (suc n * up d) (down d) (mul-pos (zero-lt-suc n) (up_pos d)) (nltb→le (0 * 1 * down d) (suc n * up d * 1) (unfold lt abs_of in h)))
  where
    go : (a d : ℕ) → 0 < a → a * 1 ≤ 0 * 1 * d → ⊥
    go a d p h = omega arith
