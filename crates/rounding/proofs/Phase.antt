-- A phase between 0 and 2: its whole part is 0 or 1.
use mathlib.Core.Path.{◌≡◌, refl, sym, ap, ◌∙◌, subst}
use mathlib.Core.Bool.{true, false, not}
use Prim.Native.Nat.{ℕ, ◌+◌, ◌-◌, ◌*◌, ◌/◌, ◌^◌, ◌≤◌, ◌<◌}
use native.Mathlib.Nat.{mul-one, one-mul, zero-lt-suc, div-eq_of_lt}
use native.Mathlib.Omega.{arith}
use lib.IntN.{pos}
use lib.Dec.{T, T_not, lit≤, lit<}
use lib.Ieee.{Float, nan, inf, fin, Format, binary32, fits, lt, sub, of_int, round}
use lib.Ieee.Positive.{num, den, den_pos}
use Rattle.ieee.proofs.Tests.{null, two_to}
use Rattle.ieee.proofs.Value.{lt-values, sub-values, value-self, two-to-value}
use Rattle.ieee.proofs.Whole.{div_is, own}
use Rattle.rounding.specs.Whole.{whole_of, cut}
use Rattle.rounding.proofs.Laws.{above, cut-one}

-- a smaller bound
pub lt-two-to : (x : Float) (v w : ℕ) → T (lt null x) → v ≤ w → T (lt x (two_to v)) → T (lt x (two_to w))
lt-two-to x v w A l h =
    let o = own x A v h in
    (lt-values binary32 x (two_to w) (num x) (den x) (2 ^ w) 1 (den_pos x) (zero-lt-suc 0) o.0 (two-to-value w)).1
    (subst (λ (z : ℕ). z < 2 ^ w * den x) (sym (mul-one (num x))) (native.Mathlib.Nat.lt_of_lt_of_le o.1 (native.Mathlib.Nat.mul-le-mul_right (den x) (lib.Pow.pow_mono l))))

module _ (n : ℕ → ℕ → ℕ) (x : Float) (F : T (fits binary32 x)) (A : T (lt null x)) where
  whole_is : T (lt x (two_to 1)) → whole_of binary32 cut n x ≡ of_int binary32 (pos (num x / den x))
  whole_is h = sym (above binary32 cut n x cut-one F A (lt-two-to x 1 23 A (lit≤ tt) h))

  nothing : of_int binary32 (pos 0) ≡ null
  nothing = unfold of_int round lib.Ieee.units in refl

  one : of_int binary32 (pos 1) ≡ two_to 0
  one = unfold of_int round lib.Ieee.units in refl

  -- below 1 it stays
  pub first-period : T (lt x (two_to 0)) → x ≡ sub binary32 x (whole_of binary32 cut n x)
  first-period h =
      let o = own x A 0 h in
      let z : num x / den x ≡ 0 = div-eq_of_lt (subst (λ (k : ℕ). num x < k) (one-mul (den x)) o.1) in
      sym
      (ap (λ (w : Float). sub binary32 x w) (whole_is (lt-two-to x 0 1 A (lit≤ tt) h) ∙ ap (λ (k : ℕ). of_int binary32 (pos k)) z ∙ nothing)
      ∙ sub-values binary32 x null (num x) (den x) 0 1 (den_pos x) (zero-lt-suc 0) o.0 (refl, refl) (least (num x) (den x))
      ∙ (λ i. round binary32 false (less (num x) (den x) i) (mul-one (den x) i))
      ∙ value-self binary32 x false (num x) (den x) (den_pos x) F o.0)
    where
      least : (a c : ℕ) → 0 * c ≤ a * 1
      least a c = omega arith

      less : (a c : ℕ) → a * 1 - 0 * c ≡ a
      less a c = omega arith

  -- from 1 to 2 it is 1 less
  pub second-period : T (not (lt x (two_to 0))) → T (lt x (two_to 1)) → sub binary32 x (two_to 0) ≡ sub binary32 x (whole_of binary32 cut n x)
  second-period g h =
      let o = own x A 1 h in
      let l : den x ≤ num x = not-under (λ (k : num x < den x). T_not (lt x (two_to 0)) g ((lt-values binary32 x (two_to 0) (num x) (den x) 1 1 (den_pos x) (zero-lt-suc 0) o.0 (refl, refl)).1 (turn (num x) (den x) k))) in
      let z : num x / den x ≡ 1 = div_is (num x) (den x) 1 (den_pos x) (subst (λ (k : ℕ). k ≤ num x) (sym (one-mul (den x))) l) (twice (num x) (den x) o.1) in
      sym (ap (λ (w : Float). sub binary32 x w) (whole_is h ∙ ap (λ (k : ℕ). of_int binary32 (pos k)) z ∙ one))
    where
      not-under : {a b : ℕ} → (a < b → ⊥) → b ≤ a
      not-under {a} {b} h = omega arith

      turn : (a c : ℕ) → a < c → a * 1 < 1 * c
      turn a c h = omega arith

      twice : (a c : ℕ) → a < 2 * c → a < 1 * c + c
      twice a c h = omega arith

-- a number that is not below 1 is above 0
pub one-above : (x : Float) → T (not (lt x (two_to 0))) → T (lt x (two_to 1)) → T (lt null x)
unfolding lt
one-above nan g h = absurd h
one-above (inf true) g h = absurd g
one-above (inf false) g h = absurd h
one-above (fin true m e) g h = absurd (T_not (lib.Dec.ltb 0 (m * lib.Ieee.up e * 1 + 1 * 1 * lib.Ieee.down e)) g (lib.Dec.lt→ltb 0 (m * lib.Ieee.up e * 1 + 1 * 1 * lib.Ieee.down e) (go (m * lib.Ieee.up e * 1) (lib.Ieee.down e) (lib.Ieee.Fits.down_pos e))))
  where
    go : (a d : ℕ) → 0 < d → 0 < a + 1 * 1 * d
    go a d h = omega arith
one-above (fin false m e) g h = lib.Dec.lt→ltb (0 * 1 * lib.Ieee.down e) (m * lib.Ieee.up e * 1) (go (m * lib.Ieee.up e * 1) (lib.Ieee.down e) (lib.Ieee.Fits.down_pos e) (lib.Dec.nltb→le (m * lib.Ieee.up e * 1) (1 * 1 * lib.Ieee.down e) g))
  where
    go : (a d : ℕ) → 0 < d → 1 * 1 * d ≤ a → 0 * 1 * d < a
    go a d p h = omega arith

pub two-32 : lib.Ieee.of_bits binary32 0x4000_0000 ≡ two_to 1
two-32 = unfold lib.Ieee.of_bits in refl
