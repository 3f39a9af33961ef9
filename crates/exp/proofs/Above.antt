-- What `exp_above` and `exp_minus` cite: with 2 ^ 52 added, a y between 0 and 512 is rounded to a whole number, k, and the sum's last digits are k.
use mathlib.Core.Path.{◌≡◌, refl, sym, ap, ◌∙◌, subst}
use mathlib.Core.Logic.{inr}
use mathlib.Core.Bool.{Bool, true, false, not}
use Prim.Native.Nat.{ℕ, zero, suc, ◌+◌, ◌-◌, ◌*◌, ◌/◌, ◌%◌, ◌^◌, ◌≤◌, ◌<◌, compare}
use native.Mathlib.Nat.{le_trans, lt_of_lt_of_le, div-lt_iff_lt-mul}
use native.Mathlib.Omega.{arith}
use lib.IntN.{pos, negsuc, neg_ℤ, nat_abs, ◌+ℤ◌}
use lib.Dec.{T, not_T, lit≤, lit<, lt→ltb, le→leb}
use lib.Signed.{lt_z}
use lib.Ieee.{Float, nan, inf, fin, binary64, up, down, neg, lt, le, eq, add, sub, mul, fits, is_nan, of_bits, to_bits, nan_bits, to_signed, of_int, in_float}
use lib.Ieee.Fits.{mul-fits, nearest-le}
use lib.Ieee.Bits.{to_bits-of_bits, nan_bits_is}
use lib.Ieee.Nearest.{closest}
use lib.Ieee.Back.{positive_back, negative_back}
use lib.Ieee.Positive.{num, den, den_pos, positive, between, mul_mono, own_value, value_pos, values_of_le}
use borrow.Author.Tests.{le-ltb}
use Rattle.ieee.proofs.Tests.{null, two_to, a_half, two-52, is_false}
use Rattle.ieee.proofs.Value.{lt-values, two-to-value}
use Rattle.ieee.proofs.Build.{build, no-nan-bits}
use Rattle.ieee.proofs.Read.{neg-round}
use Rattle.ieee.proofs.Whole.{own, raised, lowered, half-stays}
use Rattle.rounding.specs.Whole.{half, whole_of, round_of}
use Rattle.rounding.proofs.Laws.{above, half-one}
use Rattle.rounding.proofs.Phase.{lt-two-to}
use Rattle.cast.proofs.Normal.{neg-neg}
use Rattle.exp.specs.Exp.{inv_ln2, power_of_two, exp_max, exp_min}
use Rattle.exp.proofs.Power.{Written, normal}
use Rattle.double.proofs.Tests.{subℕ-ge}

-- s = y + t and k = s - t, where t is 2 ^ 52
pub record Sum (t y : Float) : Type 0 where
  pub number : T (not (is_nan (add binary64 y t)))
  pub room : to_bits binary64 (add binary64 y t) + 1023 < 2 ^ 64
  pub field_number : T (not (nan_bits binary64 ((to_bits binary64 (add binary64 y t) + 1023) * 2 ^ 52 % 2 ^ 64)))
  pub power : of_bits binary64 ((to_bits binary64 (add binary64 y t) + 1023) * 2 ^ 52 % 2 ^ 64) ≡ power_of_two (to_signed 63 (sub binary64 (add binary64 y t) t))
  pub rounded : T (not (eq (sub binary64 y (sub binary64 (add binary64 y t) t)) a_half)) → sub binary64 (add binary64 y t) t ≡ round_of binary64 y
  pub minus_room : to_bits binary64 (add binary64 y t) ≤ 0x4330_0000_0000_03ff
  pub minus_number : T (not (nan_bits binary64 ((0x4330_0000_0000_03ff - to_bits binary64 (add binary64 y t)) * 2 ^ 52 % 2 ^ 64)))
  pub minus_power : of_bits binary64 ((0x4330_0000_0000_03ff - to_bits binary64 (add binary64 y t)) * 2 ^ 52 % 2 ^ 64) ≡ power_of_two (to_signed 63 (neg (sub binary64 (add binary64 y t) t)))

module _ (y : Float) (F : T (fits binary64 y)) (A : T (lt null y)) (B : T (lt y (two_to 9))) where
  abbrev q : ℕ
  q = closest (num y) (den y)

  abbrev s : Float
  s = add binary64 y (two_to 52)

  abbrev k : Float
  k = sub binary64 s (two_to 52)

  under : T (lt y (two_to 52))
  under = lt-two-to y 9 52 A (lit≤ tt) B

  few : q ≤ 512
  few = le_trans (nearest-le (num y / den y) (compare (num y % den y * 2) (den y))) ((div-lt_iff_lt-mul (den_pos y)).1 (own y A 9 B).1)

  -- the pattern of 2 ^ 52 + q
  abbrev pattern : ℕ
  pattern = 1074 * 2 ^ 52 + (q + 2 ^ 52)

  kept : 2 ^ 52 ≤ q + 2 ^ 52
  kept = omega arith

  small : q + 2 ^ 52 ≤ 2 ^ 53
  small = go q few
    where
      go : (q : ℕ) → q ≤ 512 → q + 2 ^ 52 ≤ 2 ^ 53
      go q h = omega arith

  s-is : of_bits binary64 pattern ≡ s
  s-is = build binary64 (q + 2 ^ 52) 1074 (inr kept) small (lit≤ tt) ∙ sym (raised binary64 y (num y) (den y) (den_pos y) (own y A 52 under).0 (own y A 52 under).1)

  of_number : T (not (is_nan (of_bits binary64 pattern)))
  of_number = subst (λ (b : Bool). T (not b)) (nan_bits_is binary64 pattern) (no-nan-bits binary64 (q + 2 ^ 52) 1074 (inr kept) small (lit≤ tt))

  number : T (not (is_nan s))
  number = subst (λ (v : Float). T (not (is_nan v))) s-is of_number

  bits_are : to_bits binary64 s ≡ pattern
  bits_are = ap (to_bits binary64) (sym s-is) ∙ to_bits-of_bits binary64 pattern (go q few) of_number
    where
      go : (q : ℕ) → q ≤ 512 → 1074 * 2 ^ 52 + (q + 2 ^ 52) < 2 ^ 64
      go q h = omega arith

  room : to_bits binary64 s + 1023 < 2 ^ 64
  room = subst (λ (b : ℕ). b + 1023 < 2 ^ 64) (sym bits_are) (go q few)
    where
      go : (q : ℕ) → q ≤ 512 → 1074 * 2 ^ 52 + (q + 2 ^ 52) + 1023 < 2 ^ 64
      go q h = omega arith

  -- the field of 2 ^ q: what is above it is shifted out
  field : (w : ℕ) → q + 1023 ≡ w → (to_bits binary64 s + 1023) * 2 ^ 52 % 2 ^ 64 ≡ w * 2 ^ 52 % 2 ^ 64
  field w e = ap (λ (b : ℕ). (b + 1023) * 2 ^ 52 % 2 ^ 64) bits_are ∙ go q ∙ ap (λ (z : ℕ). z * 2 ^ 52 % 2 ^ 64) e
    where
      go : (q : ℕ) → (1074 * 2 ^ 52 + (q + 2 ^ 52) + 1023) * 2 ^ 52 % 2 ^ 64 ≡ (q + 1023) * 2 ^ 52 % 2 ^ 64
      go q = omega arith

  written : Written (pos q) 1023 2046 (λ x. x * 2 ^ 52 % 2 ^ 64)
  written = normal (pos q) (le-ltb 1023 q (le_trans few (lit≤ tt))) refl

  k-whole : k ≡ of_int binary64 (pos q)
  k-whole = lowered binary64 y (num y) (den y) (den_pos y) (own y A 52 under).0 (own y A 52 under).1

  k-is : to_signed 63 k ≡ pos q
  unfolding in_float
  k-is =
      ap (to_signed 63) k-whole
      ∙ (positive_back binary64 63 q (le→leb q (2 ^ 53) (le_trans few (lit≤ tt))) (lt_of_lt_of_le (next q few) (lit≤ tt))).1
    where
      next : (q : ℕ) → q ≤ 512 → q < 513
      next q h = omega arith

  field_number : T (not (nan_bits binary64 ((to_bits binary64 s + 1023) * 2 ^ 52 % 2 ^ 64)))
  field_number = subst (λ (b : ℕ). T (not (nan_bits binary64 b))) (sym (field written.at (ap nat_abs written.sum))) written.number

  power : of_bits binary64 ((to_bits binary64 s + 1023) * 2 ^ 52 % 2 ^ 64) ≡ power_of_two (to_signed 63 k)
  power = ap (of_bits binary64) (field written.at (ap nat_abs written.sum)) ∙ written.gives ∙ ap power_of_two (sym k-is)

  rounded : T (not (eq (sub binary64 y k) a_half)) → k ≡ round_of binary64 y
  rounded h = half-stays binary64 y F A under h ∙ above binary64 half half y half-one F A under

  -- the field of 2 ^ -q
  minus_room : to_bits binary64 s ≤ 0x4330_0000_0000_03ff
  minus_room = subst (λ (b : ℕ). b ≤ 0x4330_0000_0000_03ff) (sym bits_are) (go q few)
    where
      go : (q : ℕ) → q ≤ 512 → 1074 * 2 ^ 52 + (q + 2 ^ 52) ≤ 0x4330_0000_0000_03ff
      go q h = omega arith

  minus-written : Written (neg_ℤ (pos q)) 1023 2046 (λ x. x * 2 ^ 52 % 2 ^ 64)
  minus-written = normal (neg_ℤ (pos q)) (not-far q) (not-under q few)
    where
      not-far : (q : ℕ) → lt_z (pos 1023) (neg_ℤ (pos q)) ≡ false
      not-far zero = refl
      not-far (suc n) = refl

      not-under : (q : ℕ) → q ≤ 512 → lt_z (neg_ℤ (pos q)) (negsuc 1021) ≡ false
      not-under zero h = refl
      not-under (suc n) h = le-ltb 1021 n (go n h)
        where
          go : (n : ℕ) → suc n ≤ 512 → n ≤ 1021
          go n h = omega arith

  minus-at : 1023 - q ≡ minus-written.at
  minus-at = ap nat_abs (sym (go q few) ∙ minus-written.sum)
    where
      go : (q : ℕ) → q ≤ 512 → neg_ℤ (pos q) +ℤ pos 1023 ≡ pos (1023 - q)
      go zero h = refl
      go (suc n) h = subℕ-ge 1023 (suc n) (le_trans h (lit≤ tt))

  minus-field : (0x4330_0000_0000_03ff - to_bits binary64 s) * 2 ^ 52 % 2 ^ 64 ≡ minus-written.at * 2 ^ 52 % 2 ^ 64
  minus-field = ap (λ (b : ℕ). (0x4330_0000_0000_03ff - b) * 2 ^ 52 % 2 ^ 64) bits_are ∙ ap (λ (z : ℕ). z * 2 ^ 52 % 2 ^ 64) (go q few ∙ minus-at)
    where
      go : (q : ℕ) → q ≤ 512 → 0x4330_0000_0000_03ff - (1074 * 2 ^ 52 + (q + 2 ^ 52)) ≡ 1023 - q
      go q h = omega arith

  minus_is : to_signed 63 (neg k) ≡ neg_ℤ (pos q)
  unfolding in_float of_int to_signed neg
  minus_is = ap (λ (v : Float). to_signed 63 (neg v)) k-whole ∙ go q few
    where
      go : (q : ℕ) → q ≤ 512 → to_signed 63 (neg (of_int binary64 (pos q))) ≡ neg_ℤ (pos q)
      go zero h = refl
      go (suc n) h = ap (to_signed 63) (neg-round binary64 (suc n) 1) ∙ (negative_back binary64 63 n (lt→ltb n (2 ^ 53) (lt_of_lt_of_le h (lit≤ tt))) (le_trans h (lit≤ tt))).1

  minus_number : T (not (nan_bits binary64 ((0x4330_0000_0000_03ff - to_bits binary64 s) * 2 ^ 52 % 2 ^ 64)))
  minus_number = subst (λ (b : ℕ). T (not (nan_bits binary64 b))) (sym minus-field) minus-written.number

  minus_power : of_bits binary64 ((0x4330_0000_0000_03ff - to_bits binary64 s) * 2 ^ 52 % 2 ^ 64) ≡ power_of_two (to_signed 63 (neg k))
  minus_power = ap (of_bits binary64) minus-field ∙ minus-written.gives ∙ ap power_of_two (sym minus_is)

  sum : Sum (of_bits binary64 0x4330_0000_0000_0000) y
  sum = subst (λ (t : Float). Sum t y) (sym two-52) (record { number = number; room = room; field_number = field_number; power = power; rounded = rounded; minus_room = minus_room; minus_number = minus_number; minus_power = minus_power })

-- ---- y = x / ln 2 for an x from 2 ^ -30 to 256
abbrev pub least : Float
least = fin false 1 (negsuc 29)

abbrev pub most : Float
most = two_to 8

abbrev inv : Float
inv = fin false 0xb_8aa3_b295_c17f (negsuc 50)

inv-is : inv_ln2 ≡ inv
unfolding of_bits
inv-is = refl

max-is : exp_max ≡ fin false 0xb_1721_7f7d_1cf3 (negsuc 41)
unfolding of_bits
max-is = refl

min-is : exp_min ≡ fin true 0x1_7491_0d52_d305 (negsuc 38)
unfolding of_bits
min-is = refl

low_product : mul binary64 least inv ≡ fin false 0xb_8aa3_b295_c17f (negsuc 80)
unfolding mul
low_product = refl

high_product : mul binary64 most inv ≡ fin false 0xb_8aa3_b295_c17f (negsuc 42)
unfolding mul
high_product = refl

not-under : (x : Float) → T (positive x) → lt x (fin true 0x1_7491_0d52_d305 (negsuc 38)) ≡ false
unfolding lt
not-under nan p = refl
not-under (inf g) p = absurd p
not-under (fin true m e) p = absurd p
not-under (fin false m e) p = refl

module _ (x : Float) (a : T (le least x)) (b : T (le x most)) where
  x-positive : T (positive x)
  x-positive = between least x most tt tt a b

  from : T (le (fin false 0xb_8aa3_b295_c17f (negsuc 80)) (mul binary64 x inv))
  from = subst (λ (v : Float). T (le v (mul binary64 x inv))) low_product (mul_mono binary64 least x inv inv tt x-positive tt tt a (unfold le in tt))

  to : T (le (mul binary64 x inv) (fin false 0xb_8aa3_b295_c17f (negsuc 42)))
  to = subst (λ (v : Float). T (le (mul binary64 x inv) v)) high_product (mul_mono binary64 x most inv inv x-positive tt tt tt b (unfold le in tt))

  y-positive : T (positive (mul binary64 x inv))
  y-positive = between (fin false 0xb_8aa3_b295_c17f (negsuc 80)) (mul binary64 x inv) (fin false 0xb_8aa3_b295_c17f (negsuc 42)) tt tt from to

  y-above : T (lt null (mul binary64 x inv))
  y-above =
      let y = mul binary64 x inv in
      let v = own_value y y-positive in
      (lt-values binary64 null y 0 1 (num y) (den y) (lit< tt) (den_pos y) (refl, refl) v).1 (go (num y) (den y) (value_pos y (num y) (den y) y-positive (den_pos y) v))
    where
      go : (n d : ℕ) → 0 < n → 0 * d < n * 1
      go n d h = omega arith

  y-below : T (lt (mul binary64 x inv) (two_to 9))
  y-below =
      let y = mul binary64 x inv in
      let v = own_value y y-positive in
      (lt-values binary64 y (two_to 9) (num y) (den y) 512 1 (den_pos y) (lit< tt) v (two-to-value 9)).1
      (go (num y) (den y) (den_pos y) (values_of_le y (fin false 0xb_8aa3_b295_c17f (negsuc 42)) (num y) (den y) 0xb_8aa3_b295_c17f (2 ^ 43) y-positive tt v (refl, refl) to))
    where
      go : (n d : ℕ) → 0 < d → n * 2 ^ 43 ≤ 0xb_8aa3_b295_c17f * d → n * 1 < 512 * d
      go n d p h = omega arith

  pub quotient : Sum (of_bits binary64 0x4330_0000_0000_0000) (mul binary64 x inv_ln2)
  quotient = subst (λ (v : Float). Sum (of_bits binary64 0x4330_0000_0000_0000) (mul binary64 x v)) (sym inv-is) (sum (mul binary64 x inv) (mul-fits binary64 x inv) y-above y-below)

  pub under-max : lt exp_max x ≡ false
  under-max =
      let v = own_value x x-positive in
      ap (λ (m : Float). lt m x) max-is
      ∙ is_false (lt (fin false 0xb_1721_7f7d_1cf3 (negsuc 41)) x)
      (not_T (lt (fin false 0xb_1721_7f7d_1cf3 (negsuc 41)) x)
      (λ t. go (num x) (den x) (values_of_le x most (num x) (den x) 256 1 x-positive tt v (refl, refl) b)
      ((lt-values binary64 (fin false 0xb_1721_7f7d_1cf3 (negsuc 41)) x 0xb_1721_7f7d_1cf3 (2 ^ 42) (num x) (den x) (lit< tt) (den_pos x) (refl, refl) v).0 t)))
    where
      go : (n d : ℕ) → n * 1 ≤ 256 * d → 0xb_1721_7f7d_1cf3 * d < n * 2 ^ 42 → ⊥
      go n d h g = omega arith

  pub over-min : lt x exp_min ≡ false
  over-min = ap (λ (m : Float). lt x m) min-is ∙ not-under x x-positive

  pub minus-under-max : lt exp_max (neg x) ≡ false
  unfolding lt neg
  minus-under-max = ap (λ (m : Float). lt m (neg x)) max-is ∙ go x x-positive
    where
      go : (x : Float) → T (positive x) → lt (fin false 0xb_1721_7f7d_1cf3 (negsuc 41)) (neg x) ≡ false
      go nan p = refl
      go (inf g) p = absurd p
      go (fin true m e) p = absurd p
      go (fin false m e) p = refl

  pub minus-over-min : lt (neg x) exp_min ≡ false
  unfolding lt neg
  minus-over-min = ap (λ (m : Float). lt (neg x) m) min-is ∙ go x x-positive (values_of_le x most (num x) (den x) 256 1 x-positive tt (own_value x x-positive) (refl, refl) b)
    where
      less : (n d : ℕ) → n * 1 ≤ 256 * d → n * 2 ^ 39 ≤ 0x1_7491_0d52_d305 * 1 * d
      less n d h = omega arith

      go : (x : Float) → T (positive x) → num x * 1 ≤ 256 * den x → lt (neg x) (fin true 0x1_7491_0d52_d305 (negsuc 38)) ≡ false
      go nan p h = refl
      go (inf g) p h = absurd p
      go (fin true m e) p h = absurd p
      go (fin false m e) p h = le-ltb (0x1_7491_0d52_d305 * 1 * down e) (m * up e * 2 ^ 39) (less (m * up e) (down e) h)

  -- y's round with the other sign
  pub minus-rounded : neg (round_of binary64 (mul binary64 x inv_ln2)) ≡ round_of binary64 (mul binary64 (neg x) inv_ln2)
  unfolding mul neg whole_of
  minus-rounded = sym (ap (round_of binary64) (subst (λ (v : Float). mul binary64 (neg x) v ≡ neg (mul binary64 x v)) (sym inv-is) (product x x-positive)) ∙ turn (mul binary64 x inv_ln2))
    where
      product : (x : Float) → T (positive x) → mul binary64 (neg x) inv ≡ neg (mul binary64 x inv)
      product nan p = refl
      product (inf g) p = absurd p
      product (fin true m e) p = absurd p
      product (fin false m e) p = sym (neg-round binary64 (m * up e * 0xb_8aa3_b295_c17f) (down e * 2 ^ 51))

      turn : (v : Float) → round_of binary64 (neg v) ≡ neg (round_of binary64 v)
      turn nan = refl
      turn (inf g) = refl
      turn (fin g m (pos n)) = refl
      turn (fin true m (negsuc n)) = sym (neg-neg (of_int binary64 (pos (half m (2 ^ suc n)))))
      turn (fin false m (negsuc n)) = refl
