-- 2 ^ k from its bit pattern: what the proof of `ldexp2` cites. i = k + 1074 counts from the smallest double, 2 ^ -1074.
use mathlib.Core.Path.{◌≡◌, refl, sym, ap, ◌∙◌, subst}
use mathlib.Core.Logic.{inl, inr}
use mathlib.Core.Bool.{Bool, true, false, not, cond, true≢false}
use Prim.Native.Nat.{ℕ, suc, ◌+◌, ◌-◌, ◌*◌, ◌%◌, ◌^◌, ◌≤◌, ◌<◌}
use native.Mathlib.Nat.{le_refl, lt_of_le_of_lt, one-mul, mul-one, zero-add, mod-eq_of_lt}
use native.Mathlib.Omega.{arith}
use lib.IntN.{ℤ, pos, negsuc, nat_abs, ◌+ℤ◌}
use lib.Dec.{T, ltb, leb, lit≤, le→leb, ltb→lt, nltb→le}
use lib.Arith.{lt→nleb, le→nltb}
use lib.Pow.{pow_pos, pow_mono, pow-lt}
use lib.Signed.{lt_z}
use lib.Count.{count_trailing_zeros}
use lib.Ieee.{inf, fin, binary64, minus, odd, units, of_bits, nan_bits}
use lib.Ieee.Exact.{HasValue, units_val}
use mir.Syntax.{w64}
use mir.Val.{SFits, of_z, to_z}
use mir.ValLaws.{to_z-of_z}
use borrow.Author.Tests.{le-ltb}
use Rattle.ieee.proofs.Tests.{null, yes, no, cond_yes, cond_no}
use Rattle.ieee.proofs.Build.{pw, units-odd, units-fits, build, no-nan-bits}
use Rattle.ieee.proofs.Value.{same-value}
use Rattle.exp.specs.Exp.{power_of_two}
use Rattle.double.proofs.Tests.{subℕ-ge}

-- q * 2 ^ k units are 2 ^ i units
module _ (q k i : ℕ) (e : q * 2 ^ k ≡ 2 ^ i) (small : q ≤ 2 ^ 53) (least : i < 2098) where
  below : 2 ^ i < 2 ^ 2098
  below = pow-lt least

  lone : units binary64 false 1 i ≡ fin false 1 (minus i 1074)
  lone = units-odd binary64 1 i (subst (λ (z : ℕ). z < 2 ^ 2098) (sym (one-mul (2 ^ i))) below) ∙ (unfold odd count_trailing_zeros in ap (λ (z : ℕ). fin false 1 (minus z 1074)) (go i))
    where
      go : (i : ℕ) → i + 0 ≡ i
      go i = omega arith

  pub power-units : units binary64 false q k ≡ fin false 1 (minus i 1074)
  power-units =
      same-value binary64 (units binary64 false q k) (units binary64 false 1 i) false (2 ^ i) (2 ^ 1074) (pow_pos 1074)
      (units-fits binary64 q k small)
      (units-fits binary64 1 i (lit≤ tt))
      (subst (λ (z : ℕ). HasValue (units binary64 false q k) false z (2 ^ 1074)) e (units_val binary64 false q k (subst (λ (z : ℕ). z < 2 ^ 2098) (sym e) below)))
      (subst (λ (z : ℕ). HasValue (units binary64 false 1 i) false z (2 ^ 1074)) (one-mul (2 ^ i)) (units_val binary64 false 1 i (subst (λ (z : ℕ). z < 2 ^ 2098) (sym (one-mul (2 ^ i))) below)))
      ∙ lone

-- the exponent's field x, from 1 to 2046
module _ (x : ℕ) (least : 1 ≤ x) (most : x ≤ 2046) where
  shifted : x * 2 ^ 52 % 2 ^ 64 ≡ (x - 1) * 2 ^ 52 + 2 ^ 52
  shifted = go x least most
    where
      go : (x : ℕ) → 1 ≤ x → x ≤ 2046 → x * 2 ^ 52 % 2 ^ 64 ≡ (x - 1) * 2 ^ 52 + 2 ^ 52
      go x l m = omega arith

  room : x - 1 ≤ 2045
  room = omega arith

  pub field-power : of_bits binary64 (x * 2 ^ 52 % 2 ^ 64) ≡ fin false 1 (minus (x + 51) 1074)
  field-power =
      ap (of_bits binary64) shifted
      ∙ build binary64 (2 ^ 52) (x - 1) (inr (le_refl (2 ^ 52))) (lit≤ tt) room
      ∙ power-units (2 ^ 52) (x - 1) (x + 51) (pw 52 (x - 1) (x + 51) (go x least)) (lit≤ tt) (top x most)
    where
      go : (x : ℕ) → 1 ≤ x → 52 + (x - 1) ≡ x + 51
      go x l = omega arith

      top : (x : ℕ) → x ≤ 2046 → x + 51 < 2098
      top x h = omega arith

  pub field_number : T (not (nan_bits binary64 (x * 2 ^ 52 % 2 ^ 64)))
  field_number = subst (λ (b : ℕ). T (not (nan_bits binary64 b))) (sym shifted) (no-nan-bits binary64 (2 ^ 52) (x - 1) (inr (le_refl (2 ^ 52))) (lit≤ tt) room)

-- one digit of a subnormal number
module _ (i : ℕ) (most : i < 52) where
  digit : 1 * 2 ^ i % 2 ^ 64 ≡ 0 * 2 ^ 52 + 2 ^ i
  digit = ap (λ (z : ℕ). z % 2 ^ 64) (one-mul (2 ^ i)) ∙ mod-eq_of_lt (pow-lt (go i most)) ∙ sym (zero-add (2 ^ i))
    where
      go : (i : ℕ) → i < 52 → i < 64
      go i h = omega arith

  small : 2 ^ i ≤ 2 ^ 53
  small = pow_mono (go i most)
    where
      go : (i : ℕ) → i < 52 → i ≤ 53
      go i h = omega arith

  pub digit-power : of_bits binary64 (1 * 2 ^ i % 2 ^ 64) ≡ fin false 1 (minus i 1074)
  digit-power = ap (of_bits binary64) digit ∙ build binary64 (2 ^ i) 0 (inl refl) small (lit≤ tt) ∙ power-units (2 ^ i) 0 i (mul-one (2 ^ i)) small (go i most)
    where
      go : (i : ℕ) → i < 52 → i < 2098
      go i h = omega arith

  pub digit-number : T (not (nan_bits binary64 (1 * 2 ^ i % 2 ^ 64)))
  digit-number = subst (λ (b : ℕ). T (not (nan_bits binary64 b))) (sym digit) (no-nan-bits binary64 (2 ^ i) 0 (inl refl) small (lit≤ tt))

-- ---- the ways of `ldexp2`
pub above : (k : ℤ) → lt_z (pos 1023) k ≡ true → inf false ≡ power_of_two k
unfolding power_of_two
above (pos n) h = sym (cond_yes (ltb 1023 n) (inf false) (fin false 1 (pos n)) (yes h))
above (negsuc n) h = absurd (true≢false (sym h))

pub under : (k : ℤ) → lt_z k (negsuc 1073) ≡ true → null ≡ power_of_two k
unfolding power_of_two
under (pos n) h = absurd (true≢false (sym h))
under (negsuc n) h = ap (λ (b : Bool). cond b null (fin false 1 (negsuc n))) (sym h)

-- k + d is the number `at`, and its pattern is that of 2 ^ k
pub record Written (k : ℤ) (d most : ℕ) (bits : ℕ → ℕ) : Type 0 where
  pub at : ℕ
  pub sum : k +ℤ pos d ≡ pos at
  pub small : at ≤ most
  pub number : T (not (nan_bits binary64 (bits at)))
  pub gives : of_bits binary64 (bits at) ≡ power_of_two k

is_pos : (n : ℕ) → n ≤ 1023 → power_of_two (pos n) ≡ fin false 1 (pos n)
unfolding power_of_two
is_pos n m = cond_no (ltb 1023 n) (inf false) (fin false 1 (pos n)) (le→nltb 1023 n m)

is-neg : (n : ℕ) → n ≤ 1073 → power_of_two (negsuc n) ≡ fin false 1 (negsuc n)
unfolding power_of_two
is-neg n m = ap (λ (b : Bool). cond b null (fin false 1 (negsuc n))) (le-ltb 1073 n m)

pub subnormal : (k : ℤ) → lt_z k (negsuc 1021) ≡ true → lt_z k (negsuc 1073) ≡ false → Written k 1074 51 (λ i. 1 * 2 ^ i % 2 ^ 64)
subnormal (pos n) h g = absurd (true≢false (sym h))
subnormal (negsuc n) h g =
    let l : 1021 < n = ltb→lt 1021 n (yes h) in
    let m : n ≤ 1073 = nltb→le 1073 n (no g) in
    record {
      at = 1074 - suc n;
      sum = subℕ-ge 1074 (suc n) (many n m);
      small = few n l;
      number = digit-number (1074 - suc n) (few' n l);
      gives = digit-power (1074 - suc n) (few' n l) ∙ ap (λ (e : ℤ). fin false 1 e) (back n m) ∙ sym (is-neg n m);
    }
  where
    many : (n : ℕ) → n ≤ 1073 → suc n ≤ 1074
    many n h = omega arith

    few : (n : ℕ) → 1021 < n → 1074 - suc n ≤ 51
    few n h = omega arith

    few' : (n : ℕ) → 1021 < n → 1074 - suc n < 52
    few' n h = omega arith

    back : (n : ℕ) → n ≤ 1073 → minus (1074 - suc n) 1074 ≡ negsuc n
    back n h = cond_no (leb 1074 (1074 - suc n)) (pos ((1074 - suc n) - 1074)) (negsuc (1074 - suc (1074 - suc n))) (lt→nleb 1074 (1074 - suc n) (go n)) ∙ ap negsuc (go' n h)
      where
        go : (n : ℕ) → 1074 - suc n < 1074
        go n = omega arith

        go' : (n : ℕ) → n ≤ 1073 → 1074 - suc (1074 - suc n) ≡ n
        go' n h = omega arith

pub normal : (k : ℤ) → lt_z (pos 1023) k ≡ false → lt_z k (negsuc 1021) ≡ false → Written k 1023 2046 (λ x. x * 2 ^ 52 % 2 ^ 64)
normal (pos n) h g =
    let m : n ≤ 1023 = nltb→le 1023 n (no h) in
    record {
      at = n + 1023;
      sum = refl;
      small = few n m;
      number = field_number (n + 1023) (some n) (few n m);
      gives = field-power (n + 1023) (some n) (few n m) ∙ ap (λ (e : ℤ). fin false 1 e) (back n) ∙ sym (is_pos n m);
    }
  where
    some : (n : ℕ) → 1 ≤ n + 1023
    some n = omega arith

    few : (n : ℕ) → n ≤ 1023 → n + 1023 ≤ 2046
    few n h = omega arith

    back : (n : ℕ) → minus (n + 1023 + 51) 1074 ≡ pos n
    back n = cond_yes (leb 1074 (n + 1023 + 51)) (pos (n + 1023 + 51 - 1074)) (negsuc (1074 - suc (n + 1023 + 51))) (le→leb 1074 (n + 1023 + 51) (go n)) ∙ ap pos (go' n)
      where
        go : (n : ℕ) → 1074 ≤ n + 1023 + 51
        go n = omega arith

        go' : (n : ℕ) → n + 1023 + 51 - 1074 ≡ n
        go' n = omega arith
normal (negsuc n) h g =
    let l : n ≤ 1021 = nltb→le 1021 n (no g) in
    record {
      at = 1023 - suc n;
      sum = subℕ-ge 1023 (suc n) (many n l);
      small = few n;
      number = field_number (1023 - suc n) (some n l) (few n);
      gives = field-power (1023 - suc n) (some n l) (few n) ∙ ap (λ (e : ℤ). fin false 1 e) (back n l) ∙ sym (is-neg n (low n l));
    }
  where
    many : (n : ℕ) → n ≤ 1021 → suc n ≤ 1023
    many n h = omega arith

    some : (n : ℕ) → n ≤ 1021 → 1 ≤ 1023 - suc n
    some n h = omega arith

    few : (n : ℕ) → 1023 - suc n ≤ 2046
    few n = omega arith

    back : (n : ℕ) → n ≤ 1021 → minus (1023 - suc n + 51) 1074 ≡ negsuc n
    back n h = cond_no (leb 1074 (1023 - suc n + 51)) (pos (1023 - suc n + 51 - 1074)) (negsuc (1074 - suc (1023 - suc n + 51))) (lt→nleb 1074 (1023 - suc n + 51) (go n)) ∙ ap negsuc (go' n h)
      where
        go : (n : ℕ) → 1023 - suc n + 51 < 1074
        go n = omega arith

        go' : (n : ℕ) → n ≤ 1021 → 1074 - suc (1023 - suc n + 51) ≡ n
        go' n h = omega arith

    low : (n : ℕ) → n ≤ 1021 → n ≤ 1073
    low n l = omega arith

-- what the code's signed sum reads as
module _ (k : ℤ) (h : SFits w64 k) (d most : ℕ) (bits : ℕ → ℕ) (w : Written k d most bits) (m : most < 2 ^ 63) where
  inside : w.at < 2 ^ 63
  inside = lt_of_le_of_lt w.small m

  pub sum_is : to_z w64 (of_z w64 k) +ℤ pos d ≡ pos w.at
  sum_is = ap (λ (z : ℤ). z +ℤ pos d) (to_z-of_z w64 k h) ∙ w.sum

  pub sum_fits : SFits w64 (to_z w64 (of_z w64 k) +ℤ pos d)
  sum_fits = subst (SFits w64) (sym sum_is) (record { sfits = inside })

  pub sum-read : to_z w64 (of_z w64 (to_z w64 (of_z w64 k) +ℤ pos d)) ≡ pos w.at
  sum-read = to_z-of_z w64 (to_z w64 (of_z w64 k) +ℤ pos d) sum_fits ∙ sum_is

  pub sum_number : T (not (nan_bits binary64 (bits (nat_abs (to_z w64 (of_z w64 (to_z w64 (of_z w64 k) +ℤ pos d)))))))
  sum_number = subst (λ (z : ℤ). T (not (nan_bits binary64 (bits (nat_abs z))))) (sym sum-read) w.number

  pub sum-gives : of_bits binary64 (bits (nat_abs (to_z w64 (of_z w64 (to_z w64 (of_z w64 k) +ℤ pos d))))) ≡ power_of_two k
  sum-gives = subst (λ (z : ℤ). of_bits binary64 (bits (nat_abs z)) ≡ power_of_two k) (sym sum-read) w.gives
