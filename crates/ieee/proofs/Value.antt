-- Floats by what they are worth. `HasValue x s a c` says that x is finite, has the sign s and is a / c in size.
-- A value is written in one way (`same-value`), the rounding of what a format holds changes nothing (`value-self`), and sums, differences and comparisons of values are those of their fractions.
-- Assumes nothing.
use Rattle.std.proofs.Common.{◌≡◌, ℕ, zero, suc, ◌+◌, ◌-◌, ◌*◌, ◌%◌, ◌^◌, ◌<◌, ◌≤◌, Bool, true, false, ◌&&◌, ◌||◌, T, eqb, ltb, leb, ℤ, pos, negsuc, sym, refl, ap, ◌∙◌, subst, true≢false, le_of_eq, lt_of_lt_of_le, le_of_suc-le-suc, lt_of_le_of_lt, lt_irrefl, zero-lt-suc, mul_assoc, mul_comm, add-mul, lt_of_mul-lt-mul_right, mul-lt-mul_of_pos_right, mul-pos, one-mul, pow-suc, lt_of_not-le, zero-mul, mul-one, sub-add_cancel, mul_right_comm, mul_left_comm, arith, lit≤, eqb→eq, ltb→lt, lt→ltb, leb→le, pow_pos, pow_mono, pow-add}
use native.Mathlib.Nat.{pow-succ', eq_of_mul-eq-mul_right, mul-sub}
use lib.Pow.{pow-lt}
use lib.Ieee.{Float, nan, inf, fin, Format, binary32, binary64, prec, emax, low, up, down, fits, is_nan, neg, lt, eq, le, round, units, odd, sum, add, sub, of_int}
use lib.Ieee.Fits.{up_pos, down_pos, and_i, and_l, and_r, round-fits, eq→eqb}
use lib.Ieee.Exact.{HasValue, round_exact}
use lib.Ieee.Scale.{round_same}
use lib.Ieee.Back.{round_whole}
use Rattle.ieee.proofs.Tests.{two_to, cond_yes, cond_no}

-- ---- what `fits` says, taken apart
pub fits-odd : (f : Format) (s : Bool) (m : ℕ) (e : ℤ) → T (fits f (fin s (suc m) e)) → suc m % 2 ≡ 1
unfolding fits
fits-odd f s m e t =
    let a = eqb (suc m % 2) 1 in
    let b = ltb (suc m) (2 ^ prec f) in
    let c = leb (down e) (2 ^ low f) in
    eqb→eq (suc m % 2) 1 (and_l a b (and_l (a && b) c (and_l (a && b && c) (ltb (suc m * up e) (2 ^ suc (emax f) * down e)) t)))

pub fits_lt : (f : Format) (s : Bool) (m : ℕ) (e : ℤ) → T (fits f (fin s m e)) → m < 2 ^ prec f
unfolding fits
fits_lt f s zero e t = pow_pos (prec f)
fits_lt f s (suc m) e t =
    let a = eqb (suc m % 2) 1 in
    let b = ltb (suc m) (2 ^ prec f) in
    let c = leb (down e) (2 ^ low f) in
    ltb→lt (suc m) (2 ^ prec f) (and_r a b (and_l (a && b) c (and_l (a && b && c) (ltb (suc m * up e) (2 ^ suc (emax f) * down e)) t)))

fits_low : (f : Format) (s : Bool) (m : ℕ) (e : ℤ) → T (fits f (fin s (suc m) e)) → down e ≤ 2 ^ low f
unfolding fits
fits_low f s m e t =
    let a = eqb (suc m % 2) 1 in
    let b = ltb (suc m) (2 ^ prec f) in
    let c = leb (down e) (2 ^ low f) in
    leb→le (down e) (2 ^ low f) (and_r (a && b) c (and_l (a && b && c) (ltb (suc m * up e) (2 ^ suc (emax f) * down e)) t))

fits-high : (f : Format) (s : Bool) (m : ℕ) (e : ℤ) → T (fits f (fin s (suc m) e)) → suc m * up e < 2 ^ suc (emax f) * down e
unfolding fits
fits-high f s m e t =
    let a = eqb (suc m % 2) 1 in
    let b = ltb (suc m) (2 ^ prec f) in
    let c = leb (down e) (2 ^ low f) in
    ltb→lt (suc m * up e) (2 ^ suc (emax f) * down e) (and_r (a && b && c) (ltb (suc m * up e) (2 ^ suc (emax f) * down e)) t)

two_up : (p : ℕ) → 0 < p → 2 * p ≡ 1 → ⊥
two_up p h e = omega arith

flat : (e : ℤ) → up e * down e ≡ 1 → e ≡ pos 0
flat (pos zero) h = refl
flat (pos (suc k)) h = absurd (two_up (2 ^ k) (pow_pos k) (sym (pow-succ' 2 k) ∙ sym (mul-one (2 ^ suc k)) ∙ h))
flat (negsuc k) h = absurd (two_up (2 ^ k) (pow_pos k) (sym (pow-succ' 2 k) ∙ sym (one-mul (2 ^ suc k)) ∙ h))

-- a zero has the exponent 0
pub zero_exp : (f : Format) (s : Bool) (e : ℤ) → T (fits f (fin s zero e)) → e ≡ pos 0
unfolding fits
zero_exp f s e t = flat e (eqb→eq (up e * down e) 1 t)

-- ---- up e and down e as powers
abbrev up_by : ℤ → ℕ
up_by (pos k) = k
up_by (negsuc k) = 0

abbrev down_by : ℤ → ℕ
down_by (pos k) = 0
down_by (negsuc k) = suc k

up_is : (e : ℤ) → up e ≡ 2 ^ up_by e
up_is (pos k) = refl
up_is (negsuc k) = refl

down_is : (e : ℤ) → down e ≡ 2 ^ down_by e
down_is (pos k) = refl
down_is (negsuc k) = refl

exp-is : (e g : ℤ) → up_by e + down_by g ≡ up_by g + down_by e → e ≡ g
exp-is (pos k) (pos l) h = ap pos (go k l h)
  where
    go : (k l : ℕ) → k + 0 ≡ l + 0 → k ≡ l
    go k l h = omega arith
exp-is (pos k) (negsuc l) h = absurd (go k l h)
  where
    go : (k l : ℕ) → k + suc l ≡ 0 + 0 → ⊥
    go k l h = omega arith
exp-is (negsuc k) (pos l) h = absurd (go k l h)
  where
    go : (k l : ℕ) → 0 + 0 ≡ l + suc k → ⊥
    go k l h = omega arith
exp-is (negsuc k) (negsuc l) h = ap negsuc (go k l h)
  where
    go : (k l : ℕ) → 0 + suc l ≡ 0 + suc k → k ≡ l
    go k l h = omega arith

even_odd : (m t : ℕ) → m % 2 ≡ 1 → m ≡ 2 * t → ⊥
even_odd m t o h = omega arith

odd_pow : (m n a b : ℕ) → m % 2 ≡ 1 → n % 2 ≡ 1 → m * 2 ^ a ≡ n * 2 ^ b → (m ≡ n) × (a ≡ b)
odd_pow m n zero zero o p h = (sym (mul-one m) ∙ h ∙ mul-one n, refl)
odd_pow m n zero (suc b) o p h = absurd (even_odd m (n * 2 ^ b) o (sym (mul-one m) ∙ h ∙ ap (λ (x : ℕ). n * x) (pow-succ' 2 b) ∙ mul_left_comm n 2 (2 ^ b)))
odd_pow m n (suc a) zero o p h = absurd (even_odd n (m * 2 ^ a) p (sym (mul-one n) ∙ sym h ∙ ap (λ (x : ℕ). m * x) (pow-succ' 2 a) ∙ mul_left_comm m 2 (2 ^ a)))
odd_pow m n (suc a) (suc b) o p h =
    let r = odd_pow m n a b o p (eq_of_mul-eq-mul_right 2 (zero-lt-suc 1) (m * 2 ^ a) (n * 2 ^ b)
    (mul_assoc m (2 ^ a) 2 ∙ ap (λ (x : ℕ). m * x) (sym (pow-suc 2 a)) ∙ h ∙ ap (λ (x : ℕ). n * x) (pow-suc 2 b) ∙ sym (mul_assoc n (2 ^ b) 2))) in
    (r.0, ap suc r.1)

-- two fractions that equal a / c equal each other
pub crossed : (x y de dg a c : ℕ) → 0 < c → x * c ≡ a * de → y * c ≡ a * dg → x * dg ≡ y * de
crossed x y de dg a c C p q =
    eq_of_mul-eq-mul_right c C (x * dg) (y * de)
    (mul_right_comm x dg c ∙ ap (λ (z : ℕ). z * dg) p ∙ mul_right_comm a de dg ∙ ap (λ (z : ℕ). z * de) (sym q) ∙ mul_right_comm y c de)

nothing : (m u d w : ℕ) → 0 < u → 0 < d → suc m * u * d ≡ 0 * w → ⊥
nothing m u d w U D h = lt_irrefl 0 (subst (λ (z : ℕ). 0 < z) (h ∙ zero-mul w) (mul-pos (mul-pos (zero-lt-suc m) U) D))

-- ---- a value is written in one way
pub same-value : (f : Format) (x y : Float) (s : Bool) (a c : ℕ) → 0 < c → T (fits f x) → T (fits f y) → HasValue x s a c → HasValue y s a c → x ≡ y
same-value f nan y s a c C p q v w = absurd v
same-value f (inf t) y s a c C p q v w = absurd v
same-value f (fin t m e) nan s a c C p q v w = absurd w
same-value f (fin t m e) (inf u) s a c C p q v w = absurd w
same-value f (fin t zero e) (fin u zero g) s a c C p q v w = λ i. fin ((v.0 ∙ sym w.0) i) zero ((zero_exp f t e p ∙ sym (zero_exp f u g q)) i)
same-value f (fin t zero e) (fin u (suc n) g) s a c C p q v w =
    absurd (nothing n (up g) (down e) (up e * down g) (up_pos g) (down_pos e) (sym (crossed (0 * up e) (suc n * up g) (down e) (down g) a c C v.1 w.1) ∙ mul_assoc 0 (up e) (down g)))
same-value f (fin t (suc m) e) (fin u zero g) s a c C p q v w =
    absurd (nothing m (up e) (down g) (up g * down e) (up_pos e) (down_pos g) (crossed (suc m * up e) (0 * up g) (down e) (down g) a c C v.1 w.1 ∙ mul_assoc 0 (up g) (down e)))
same-value f (fin t (suc m) e) (fin u (suc n) g) s a c C p q v w =
    let h = crossed (suc m * up e) (suc n * up g) (down e) (down g) a c C v.1 w.1 in
    let r = odd_pow (suc m) (suc n) (up_by e + down_by g) (up_by g + down_by e) (fits-odd f t m e p) (fits-odd f u n g q) (powers (suc m) e g ∙ h ∙ sym (powers (suc n) g e)) in
    λ i. fin ((v.0 ∙ sym w.0) i) (r.0 i) (exp-is e g r.1 i)
  where
    powers : (m : ℕ) (e g : ℤ) → m * 2 ^ (up_by e + down_by g) ≡ m * up e * down g
    powers m e g = ap (λ (z : ℕ). m * z) (pow-add 2 (up_by e) (down_by g)) ∙ sym (mul_assoc m (2 ^ up_by e) (2 ^ down_by g)) ∙ (λ i. m * sym (up_is e) i * sym (down_is g) i)

-- ---- the rounding of what a format holds
pow_le_back : (a l : ℕ) → 2 ^ a ≤ 2 ^ l → a ≤ l
pow_le_back a l h = le_of_suc-le-suc (lt_of_not-le (λ (g : suc l ≤ a). lt_irrefl (2 ^ l) (lt_of_lt_of_le (pow-lt g) h)))

round-none : (f : Format) (s : Bool) → round f s 0 1 ≡ fin s 0 (pos 0)
unfolding round units
round-none binary32 s = refl
round-none binary64 s = refl

self-value : (f : Format) (s : Bool) (m : ℕ) (e : ℤ) → T (fits f (fin s (suc m) e)) → HasValue (round f s (suc m * up e) (down e)) s (suc m * up e) (down e)
self-value f s m e F =
    let l = low f in
    let j = up_by e + l - down_by e in
    let D : down_by e ≤ l = pow_le_back (down_by e) l (subst (λ (z : ℕ). z ≤ 2 ^ l) (down_is e) (fits_low f s m e F)) in
    let J : j + down_by e ≡ up_by e + l = back (up_by e) l (down_by e) D in
    let h : suc m * up e * 2 ^ l ≡ suc m * 2 ^ j * down e =
    mul_assoc (suc m) (up e) (2 ^ l)
    ∙ ap (λ (z : ℕ). suc m * z) (ap (λ (z : ℕ). z * 2 ^ l) (up_is e) ∙ sym (pow-add 2 (up_by e) l) ∙ ap (λ (z : ℕ). 2 ^ z) (sym J) ∙ pow-add 2 j (down_by e) ∙ ap (λ (z : ℕ). 2 ^ j * z) (sym (down_is e)))
    ∙ sym (mul_assoc (suc m) (2 ^ j) (down e)) in
    round_exact f s (suc m * up e) (down e) (suc m) j (down_pos e) (fits_lt f s (suc m) e F)
    (lt_of_mul-lt-mul_right (down e)
    (lt_of_le_of_lt (le_of_eq (sym h))
    (lt_of_lt_of_le (mul-lt-mul_of_pos_right (fits-high f s m e F) (pow_pos l))
    (le_of_eq (mul_right_comm (2 ^ suc (emax f)) (down e) (2 ^ l) ∙ ap (λ (z : ℕ). z * down e) (mul_comm (2 ^ suc (emax f)) (2 ^ l) ∙ sym (pow-add 2 l (suc (emax f)))))))))
    h
  where
    back : (u l d : ℕ) → d ≤ l → u + l - d + d ≡ u + l
    back u l d h = omega arith

pub round-self : (f : Format) (s : Bool) (m : ℕ) (e : ℤ) → T (fits f (fin s m e)) → round f s (m * up e) (down e) ≡ fin s m e
round-self f s zero e F =
    let z : e ≡ pos 0 = zero_exp f s e F in
    subst (λ (g : ℤ). round f s (0 * up g) (down g) ≡ fin s 0 g) (sym z) (round-none f s)
round-self f s (suc m) e F = same-value f (round f s (suc m * up e) (down e)) (fin s (suc m) e) s (suc m * up e) (down e) (down_pos e) (round-fits f s (suc m * up e) (down e)) F (self-value f s m e F) (refl, refl)

pub value-self : (f : Format) (x : Float) (s : Bool) (a c : ℕ) → 0 < c → T (fits f x) → HasValue x s a c → round f s a c ≡ x
value-self f nan s a c C F v = absurd v
value-self f (inf t) s a c C F v = absurd v
value-self f (fin t m e) s a c C F v =
    round_same f s a c (m * up e) (down e) C (down_pos e) (sym v.1)
    ∙ ap (λ (u : Bool). round f u (m * up e) (down e)) (sym v.0)
    ∙ round-self f t m e F

-- ---- sums and differences of values that are not negative
cross-add : (x y d g a b c k : ℕ) → x * c ≡ a * d → y * k ≡ b * g → (x * g + y * d) * (c * k) ≡ (a * k + b * c) * (d * g)
cross-add x y d g a b c k p q =
    let l : x * g * (c * k) ≡ a * k * (d * g) = simp (mul_assoc, mul_comm, mul_left_comm) (simp (mul_assoc, mul_comm, mul_left_comm) at (ap (λ (z : ℕ). z * (g * k)) p)) in
    let r : y * d * (c * k) ≡ b * c * (d * g) = simp (mul_assoc, mul_comm, mul_left_comm) (simp (mul_assoc, mul_comm, mul_left_comm) at (ap (λ (z : ℕ). z * (d * c)) q)) in
    add-mul (x * g) (y * d) (c * k) ∙ (λ i. l i + r i) ∙ sym (add-mul (a * k) (b * c) (d * g))

pub sub-mul : (a b k : ℕ) → (a - b) * k ≡ a * k - b * k
sub-mul a b k = mul_comm (a - b) k ∙ mul-sub k a b ∙ (λ i. mul_comm k a i - mul_comm k b i)

cross-sub : (x y d g a b c k : ℕ) → x * c ≡ a * d → y * k ≡ b * g → (x * g - y * d) * (c * k) ≡ (a * k - b * c) * (d * g)
cross-sub x y d g a b c k p q =
    let l : x * g * (c * k) ≡ a * k * (d * g) = simp (mul_assoc, mul_comm, mul_left_comm) (simp (mul_assoc, mul_comm, mul_left_comm) at (ap (λ (z : ℕ). z * (g * k)) p)) in
    let r : y * d * (c * k) ≡ b * c * (d * g) = simp (mul_assoc, mul_comm, mul_left_comm) (simp (mul_assoc, mul_comm, mul_left_comm) at (ap (λ (z : ℕ). z * (d * c)) q)) in
    sub-mul (x * g) (y * d) (c * k) ∙ (λ i. l i - r i) ∙ sym (sub-mul (a * k) (b * c) (d * g))

module _ (f : Format) (x y : Float) (a c b k : ℕ) (C : 0 < c) (K : 0 < k) where
  pub add-values : HasValue x false a c → HasValue y false b k → add f x y ≡ round f false (a * k + b * c) (c * k)
  unfolding add sum
  add-values v w = go x y v w
    where
      go : (x y : Float) → HasValue x false a c → HasValue y false b k → add f x y ≡ round f false (a * k + b * c) (c * k)
      go nan y v w = absurd v
      go (inf t) y v w = absurd v
      go (fin t m e) nan v w = absurd w
      go (fin t m e) (inf u) v w = absurd w
      go (fin true m e) (fin u n g) v w = absurd (true≢false v.0)
      go (fin false m e) (fin true n g) v w = absurd (true≢false w.0)
      go (fin false m e) (fin false n g) v w =
          round_same f false (m * up e * down g + n * up g * down e) (down e * down g) (a * k + b * c) (c * k) (mul-pos (down_pos e) (down_pos g)) (mul-pos C K)
          (cross-add (m * up e) (n * up g) (down e) (down g) a b c k v.1 w.1)

  -- the order of the fractions is that of the values
  lt-cross : (p q d g : ℕ) → 0 < d → 0 < g → p * c ≡ a * d → q * k ≡ b * g → p * g < q * d → a * k < b * c
  lt-cross p q d g D G v w h =
      lt_of_mul-lt-mul_right (d * g)
      (lt_of_le_of_lt (le_of_eq (sym (left p a d g v))) (lt_of_lt_of_le (mul-lt-mul_of_pos_right h (mul-pos C K)) (le_of_eq (right q b d g w))))
    where
      left : (p a d g : ℕ) → p * c ≡ a * d → p * g * (c * k) ≡ a * k * (d * g)
      left p a d g v = simp (mul_assoc, mul_comm, mul_left_comm) (simp (mul_assoc, mul_comm, mul_left_comm) at (ap (λ (z : ℕ). z * (g * k)) v))

      right : (q b d g : ℕ) → q * k ≡ b * g → q * d * (c * k) ≡ b * c * (d * g)
      right q b d g w = simp (mul_assoc, mul_comm, mul_left_comm) (simp (mul_assoc, mul_comm, mul_left_comm) at (ap (λ (z : ℕ). z * (d * c)) w))

module _ (f : Format) (x y : Float) (a c b k : ℕ) (C : 0 < c) (K : 0 < k) where
  cross-lt : (p q d g : ℕ) → 0 < d → 0 < g → p * c ≡ a * d → q * k ≡ b * g → a * k < b * c → p * g < q * d
  cross-lt p q d g D G v w h = lt-cross f x y p d q g D G a b c k C K (sym v) (sym w) h

  pub sub-values : HasValue x false a c → HasValue y false b k → b * c ≤ a * k → sub f x y ≡ round f false (a * k - b * c) (c * k)
  unfolding sub neg add sum
  sub-values v w h = go x y v w
    where
      go : (x y : Float) → HasValue x false a c → HasValue y false b k → sub f x y ≡ round f false (a * k - b * c) (c * k)
      go nan y v w = absurd v
      go (inf t) y v w = absurd v
      go (fin t m e) nan v w = absurd w
      go (fin t m e) (inf u) v w = absurd w
      go (fin true m e) (fin u n g) v w = absurd (true≢false v.0)
      go (fin false m e) (fin true n g) v w = absurd (true≢false w.0)
      go (fin false m e) (fin false n g) v w =
          let p = m * up e * down g in
          let q = n * up g * down e in
          cond_no (ltb p q) (round f true (q - p) (down e * down g)) (round f false (p - q) (down e * down g))
          (lib.Arith.le→nltb p q (lib.Ieee.Order.transfer (n * up g) (m * up e) (down g) (down e) b a k c K C w.1 v.1 h))
          ∙ round_same f false (p - q) (down e * down g) (a * k - b * c) (c * k) (mul-pos (down_pos e) (down_pos g)) (mul-pos C K)
          (cross-sub (m * up e) (n * up g) (down e) (down g) a b c k v.1 w.1)

  pub sub-under : HasValue x false a c → HasValue y false b k → a * k < b * c → sub f x y ≡ round f true (b * c - a * k) (c * k)
  unfolding sub neg add sum
  sub-under v w h = go x y v w
    where
      go : (x y : Float) → HasValue x false a c → HasValue y false b k → sub f x y ≡ round f true (b * c - a * k) (c * k)
      go nan y v w = absurd v
      go (inf t) y v w = absurd v
      go (fin t m e) nan v w = absurd w
      go (fin t m e) (inf u) v w = absurd w
      go (fin true m e) (fin u n g) v w = absurd (true≢false v.0)
      go (fin false m e) (fin true n g) v w = absurd (true≢false w.0)
      go (fin false m e) (fin false n g) v w =
          let p = m * up e * down g in
          let q = n * up g * down e in
          cond_yes (ltb p q) (round f true (q - p) (down e * down g)) (round f false (p - q) (down e * down g))
          (lt→ltb p q (cross-lt (m * up e) (n * up g) (down e) (down g) (down_pos e) (down_pos g) v.1 w.1 h))
          ∙ round_same f true (q - p) (down e * down g) (b * c - a * k) (c * k) (mul-pos (down_pos e) (down_pos g)) (mul-pos C K)
          (ap (λ (z : ℕ). (q - p) * z) (mul_comm c k) ∙ cross-sub (n * up g) (m * up e) (down g) (down e) b a k c w.1 v.1 ∙ ap (λ (z : ℕ). (b * c - a * k) * z) (mul_comm (down g) (down e)))

  -- ---- comparisons
  pub lt-values : HasValue x false a c → HasValue y false b k → (T (lt x y) → a * k < b * c) × (a * k < b * c → T (lt x y))
  unfolding lt
  lt-values v w = go x y v w
    where
      go : (x y : Float) → HasValue x false a c → HasValue y false b k → (T (lt x y) → a * k < b * c) × (a * k < b * c → T (lt x y))
      go nan y v w = absurd v
      go (inf t) y v w = absurd v
      go (fin t m e) nan v w = absurd w
      go (fin t m e) (inf u) v w = absurd w
      go (fin true m e) (fin u n g) v w = absurd (true≢false v.0)
      go (fin false m e) (fin true n g) v w = absurd (true≢false w.0)
      go (fin false m e) (fin false n g) v w = (
        λ t. lt-cross f x y a c b k C K (m * up e) (n * up g) (down e) (down g) (down_pos e) (down_pos g) v.1 w.1 (ltb→lt (m * up e * down g) (n * up g * down e) t),
        λ h. lt→ltb (m * up e * down g) (n * up g * down e) (cross-lt (m * up e) (n * up g) (down e) (down g) (down_pos e) (down_pos g) v.1 w.1 h),
      )

  pub eq-values : HasValue x false a c → HasValue y false b k → (T (eq x y) → a * k ≡ b * c) × (a * k ≡ b * c → T (eq x y))
  unfolding eq
  eq-values v w = go x y v w
    where
      go : (x y : Float) → HasValue x false a c → HasValue y false b k → (T (eq x y) → a * k ≡ b * c) × (a * k ≡ b * c → T (eq x y))
      go nan y v w = absurd v
      go (inf t) y v w = absurd v
      go (fin t m e) nan v w = absurd w
      go (fin t m e) (inf u) v w = absurd w
      go (fin true m e) (fin u n g) v w = absurd (true≢false v.0)
      go (fin false m e) (fin true n g) v w = absurd (true≢false w.0)
      go (fin false m e) (fin false n g) v w = (
        λ t. turn (m * up e) (n * up g) (down e) (down g) a b c k (mul-pos (down_pos e) (down_pos g)) v.1 w.1 (eqb→eq (m * up e * down g) (n * up g * down e) (and_l (eqb (m * up e * down g) (n * up g * down e)) (true || eqb (m * up e * down g) 0) t)),
        λ h. and_i (eqb (m * up e * down g) (n * up g * down e)) true (eq→eqb (turn a b c k (m * up e) (n * up g) (down e) (down g) (mul-pos C K) (sym v.1) (sym w.1) h)) tt,
      )
        where
          turn : (p q d g a b c k : ℕ) → 0 < d * g → p * c ≡ a * d → q * k ≡ b * g → p * g ≡ q * d → a * k ≡ b * c
          turn p q d g a b c k D v w h =
              let l : p * g * (c * k) ≡ a * k * (d * g) = simp (mul_assoc, mul_comm, mul_left_comm) (simp (mul_assoc, mul_comm, mul_left_comm) at (ap (λ (z : ℕ). z * (g * k)) v)) in
              let r : q * d * (c * k) ≡ b * c * (d * g) = simp (mul_assoc, mul_comm, mul_left_comm) (simp (mul_assoc, mul_comm, mul_left_comm) at (ap (λ (z : ℕ). z * (d * c)) w)) in
              eq_of_mul-eq-mul_right (d * g) D (a * k) (b * c) (sym l ∙ ap (λ (z : ℕ). z * (c * k)) h ∙ r)

-- ---- the same value as another fraction
pub revalue : (x : Float) (s : Bool) (a c b d : ℕ) → 0 < c → a * d ≡ b * c → HasValue x s a c → HasValue x s b d
revalue nan s a c b d C h v = v
revalue (inf t) s a c b d C h v = v
revalue (fin t m e) s a c b d C h v = (
  v.0,
  eq_of_mul-eq-mul_right c C (m * up e * d) (b * down e)
      (mul_right_comm (m * up e) d c ∙ ap (λ (z : ℕ). z * d) v.1 ∙ mul_right_comm a (down e) d ∙ ap (λ (z : ℕ). z * down e) h ∙ mul_right_comm b c (down e)),
)

-- ---- a fraction n / 2 ^ k of few digits is exact
pub fraction-exact : (f : Format) (s : Bool) (n k : ℕ) → n < 2 ^ prec f → k ≤ low f → HasValue (round f s n (2 ^ k)) s n (2 ^ k)
fraction-exact f s n k N K =
    let j = low f - k in
    round_exact f s n (2 ^ k) n j (pow_pos k) N
    (lt_of_lt_of_le (lib.Pow.shl_lt (prec f) j N) (pow_mono (room f (low f) k K)))
    (sym (mul_assoc n (2 ^ j) (2 ^ k) ∙ ap (λ (z : ℕ). n * z) (sym (pow-add 2 j k) ∙ ap (λ (z : ℕ). 2 ^ z) (sub-add_cancel K))))
  where
    less : (P E l k : ℕ) → P ≤ E → k ≤ l → P + (l - k) ≤ l + E
    less P E l k h g = omega arith

    room : (f : Format) (l k : ℕ) → k ≤ l → prec f + (l - k) ≤ l + suc (emax f)
    room binary32 l k h = less 24 128 l k (lit≤ tt) h
    room binary64 l k h = less 53 1024 l k (lit≤ tt) h

-- of a value that fits: its denominator is 2 ^ k for a k up to `low`
pub den-power : (f : Format) (s : Bool) (m : ℕ) (e : ℤ) → T (fits f (fin s m e)) → (k : ℕ) × (down e ≡ 2 ^ k) × (k ≤ low f)
den-power f s zero e F = (0, ap down (zero_exp f s e F), Prim.Native.Nat.zero-le)
den-power f s (suc m) e F = (down_by e, down_is e, pow_le_back (down_by e) (low f) (subst (λ (z : ℕ). z ≤ 2 ^ low f) (down_is e) (fits_low f s m e F)))

-- ---- whole numbers
pub whole-value : (f : Format) (q : ℕ) → q ≤ 2 ^ prec f → HasValue (of_int f (pos q)) false q 1
unfolding of_int
whole-value f q h = round_whole f false q h

pub two-to-value : (w : ℕ) → HasValue (two_to w) false (2 ^ w) 1
two-to-value w = (refl, ap (λ (z : ℕ). z * 1) (one-mul (2 ^ w)))

plain : (n : ℕ) → n * 1 ≡ n
plain n = mul-one n

pub add-whole : (f : Format) (x y : Float) (a b : ℕ) → HasValue x false a 1 → HasValue y false b 1 → add f x y ≡ of_int f (pos (a + b))
unfolding of_int
add-whole f x y a b v w = add-values f x y a 1 b 1 (zero-lt-suc 0) (zero-lt-suc 0) v w ∙ (λ i. round f false (mul-one a i + mul-one b i) 1)

pub sub-whole : (f : Format) (x y : Float) (a b : ℕ) → HasValue x false a 1 → HasValue y false b 1 → b ≤ a → sub f x y ≡ of_int f (pos (a - b))
unfolding of_int
sub-whole f x y a b v w h =
    sub-values f x y a 1 b 1 (zero-lt-suc 0) (zero-lt-suc 0) v w (subst (λ (z : ℕ). z ≤ a * 1) (sym (mul-one b)) (subst (λ (z : ℕ). b ≤ z) (sym (mul-one a)) h))
    ∙ (λ i. round f false (mul-one a i - mul-one b i) 1)
