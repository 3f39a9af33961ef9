-- What the proof of `small_to_u64` cites: an f32 from 1 to 2 ^ 20 has at most 32 digits after the point, so x + 2 ^ 20 is exact in f64.
use Rattle.std.proofs.Common.{◌≡◌, ℕ, suc, ◌+◌, ◌-◌, ◌*◌, ◌/◌, ◌^◌, ◌<◌, ◌≤◌, true, false, not, T, pos, negsuc, sym, refl, ap, ◌∙◌, subst, inr, zero-le, le_trans, le_of_eq, lt_of_lt_of_le, le_of_suc-le-suc, lt_of_le_of_lt, lt_irrefl, zero-lt-suc, mul_assoc, mul_comm, mul-lt-mul_of_pos_right, lt_of_not-le, mul-one, arith, lit≤, ltb→lt, lt→ltb, pow_pos, pow_mono}
use lib.Ieee.{Float, nan, inf, fin, binary32, binary64, up, down, fits, is_nan, lt, le, units, round, add, of_bits, to_bits, to_unsigned}
use lib.Ieee.Bits.{to_bits-of_bits}
use lib.Ieee.Exact.{HasValue, units_val}
use lib.Ieee.Nearest.{div_same}
use lib.Ieee.Positive.{num, den, den_pos, positive, above, above_of_le, own_value, le→cross}
use Rattle.ieee.proofs.Tests.{null, two_to}
use Rattle.ieee.proofs.Value.{fits_lt, add-values, revalue, value-self, two-to-value}
use Rattle.ieee.proofs.Build.{pw, build, units-fits, value-no-nan}
use Rattle.ieee.proofs.Whole.{own}
use Rattle.ieee.proofs.Cast.{part}

pow_le_back : (a l : ℕ) → 2 ^ a < 2 ^ suc l → a ≤ l
pow_le_back a l h = le_of_suc-le-suc (lt_of_not-le (λ (g : suc l ≤ a). lt_irrefl (2 ^ a) (lt_of_lt_of_le h (pow_mono g))))

-- ---- x is a number above zero
is-above : (x : Float) → T (above x) → T (lt x (two_to 20)) → T (positive x) × T (lt null x)
unfolding lt
is-above nan a b = absurd a
is-above (inf true) a b = absurd a
is-above (inf false) a b = absurd b
is-above (fin true m e) a b = absurd a
is-above (fin false m e) a b = (a, lt→ltb (0 * 1 * down e) (m * up e * 1) (go (m * up e) (down e) (native.Mathlib.Nat.mul-pos (ltb→lt 0 m a) (lib.Ieee.Fits.up_pos e))))
  where
    go : (n d : ℕ) → 0 < n → 0 * 1 * d < n * 1
    go n d h = omega arith

-- ---- its denominator
few-digits : (x : Float) → T (fits binary32 x) → T (positive x) → den x ≤ num x → (k : ℕ) × (den x ≡ 2 ^ k) × (k ≤ 32)
few-digits nan F p h = absurd p
few-digits (inf s) F p h = absurd p
few-digits (fin s m (pos j)) F p h = (0, refl, zero-le)
few-digits (fin s m (negsuc j)) F p h =
    (suc j, refl, le_trans (pow_le_back (suc j) 23 (lt_of_le_of_lt (le_trans h (le_of_eq (mul-one m))) (fits_lt binary32 s m (negsuc j) F))) (lit≤ tt))

-- ---- the pattern of 2 ^ 20 + a / 2 ^ 32
summed : (a : ℕ) → a < 2 ^ 52 → (round binary64 false (a + 2 ^ 52) (2 ^ 32) ≡ of_bits binary64 (1043 * 2 ^ 52 + a)) × (1043 * 2 ^ 52 + a < 2 ^ 64) × T (not (is_nan (of_bits binary64 (1043 * 2 ^ 52 + a))))
summed a h =
    let q = a + 2 ^ 52 in
    let u = units binary64 false q 1042 in
    let v : HasValue u false (q * 2 ^ 1042) (2 ^ 1074) = units_val binary64 false q 1042 (lt_of_lt_of_le (mul-lt-mul_of_pos_right (less a h) (pow_pos 1042)) (le_trans (le_of_eq (pw 53 1042 1095 refl)) (pow_mono {i = 1095} {j = 2098} (lit≤ tt)))) in
    let w : HasValue u false q (2 ^ 32) = revalue u false (q * 2 ^ 1042) (2 ^ 1074) q (2 ^ 32) (pow_pos 1074) (mul_assoc q (2 ^ 1042) (2 ^ 32) ∙ ap (λ (z : ℕ). q * z) (pw 1042 32 1074 refl)) v in
    let b : of_bits binary64 (1043 * 2 ^ 52 + a) ≡ u = ap (λ (z : ℕ). of_bits binary64 z) (carry a) ∙ build binary64 q 1042 (inr (more a)) (at_most a h) (lit≤ tt) in
    (value-self binary64 u false q (2 ^ 32) (pow_pos 32) (units-fits binary64 q 1042 (at_most a h)) w ∙ sym b, room a h, subst (λ (z : Float). T (not (is_nan z))) (sym b) (value-no-nan u q (2 ^ 32) w))
  where
    less : (a : ℕ) → a < 2 ^ 52 → a + 2 ^ 52 < 2 ^ 53
    less a h = omega arith

    more : (a : ℕ) → 2 ^ 52 ≤ a + 2 ^ 52
    more a = omega arith

    at_most : (a : ℕ) → a < 2 ^ 52 → a + 2 ^ 52 ≤ 2 ^ 53
    at_most a h = omega arith

    carry : (a : ℕ) → 1043 * 2 ^ 52 + a ≡ 1042 * 2 ^ 52 + (a + 2 ^ 52)
    carry a = omega arith

    room : (a : ℕ) → a < 2 ^ 52 → 1043 * 2 ^ 52 + a < 2 ^ 64
    room a h = omega arith

pub record Small (x : Float) : Type 0 where
  pub number : T (not (is_nan (add binary64 x (two_to 20))))
  pub gives : to_bits binary64 (add binary64 x (two_to 20)) / 2 ^ 32 ≡ 1093664768 + to_unsigned 64 x

pub small : (x : Float) → T (fits binary32 x) → T (le (two_to 0) x) → T (lt x (two_to 20)) → Small x
small x F A B =
    let p = is-above x (above_of_le (two_to 0) x tt A) B in
    let d : den x ≤ num x = under (den x) (num x) (le→cross (two_to 0) x tt p.0 A) in
    let k = few-digits x F p.0 d in
    let r = 2 ^ (32 - k.0) in
    let a = num x * r in
    let e : den x * r ≡ 2 ^ 32 = ap (λ (z : ℕ). z * r) k.1 ∙ pw k.0 (32 - k.0) 32 (fill k.0 k.2) in
    let same : num x * 2 ^ 32 ≡ a * den x = ap (λ (z : ℕ). num x * z) (sym e ∙ mul_comm (den x) r) ∙ sym (mul_assoc (num x) r (den x)) in
    let h : a < 2 ^ 52 = lt_of_lt_of_le (mul-lt-mul_of_pos_right (own x p.1 20 B).1 (pow_pos (32 - k.0))) (le_of_eq (mul_assoc (2 ^ 20) (den x) r ∙ ap (λ (z : ℕ). 2 ^ 20 * z) e)) in
    let s = summed a h in
    let is : add binary64 x (two_to 20) ≡ of_bits binary64 (1043 * 2 ^ 52 + a) =
    add-values binary64 x (two_to 20) a (2 ^ 32) (2 ^ 20) 1 (pow_pos 32) (zero-lt-suc 0) (revalue x false (num x) (den x) a (2 ^ 32) (den_pos x) same (own_value x p.0)) (two-to-value 20)
    ∙ ap (λ (z : ℕ). round binary64 false (z + 2 ^ 52) (2 ^ 32)) (mul-one a)
    ∙ s.0 in
    record {
      number = subst (λ (z : Float). T (not (is_nan z))) (sym is) s.2;
      gives =
          ap (λ (z : Float). to_bits binary64 z / 2 ^ 32) is
          ∙ ap (λ (z : ℕ). z / 2 ^ 32) (to_bits-of_bits binary64 (1043 * 2 ^ 52 + a) s.1 s.2)
          ∙ cut a
          ∙ ap (λ (z : ℕ). 1093664768 + z) (div_same a (2 ^ 32) (num x) (den x) (pow_pos 32) (den_pos x) (sym same) ∙ sym (part 20 x (lit≤ tt) p.1 B).0);
    }
  where
    under : (d n : ℕ) → 1 * 1 * d ≤ n * 1 → d ≤ n
    under d n h = omega arith

    fill : (k : ℕ) → k ≤ 32 → k + (32 - k) ≡ 32
    fill k h = omega arith

    cut : (a : ℕ) → (1043 * 4503599627370496 + a) / 4294967296 ≡ 1093664768 + a / 4294967296
    cut a = omega arith

-- as the code has it
pub two-20 : of_bits binary64 0x4130_0000_0000_0000 ≡ two_to 20
unfolding of_bits
two-20 = refl
