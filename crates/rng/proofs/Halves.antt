-- Twice n / 2 ^ 24 is n / 2 ^ 23: nothing is rounded for a whole n of 24 digits.
use Rattle.std.proofs.Common.{◌≡◌, ℕ, zero, suc, ◌*◌, ◌^◌, ◌<◌, true, false, pos, sym, refl, ap, ◌∙◌, lt_of_lt_of_le, le_of_lt, mul_assoc, mul_comm, mul-pos, one-mul, arith, lit≤, pow_pos, shl_lt}
use lib.Ieee.Fits.{down_pos}
use lib.Ieee.{Float, nan, inf, fin, binary32, round, of_int, of_bits, mul, div, up, down}
use lib.Ieee.Exact.{HasValue, round_exact}
use lib.Ieee.Back.{round_whole}
use lib.Ieee.Scale.{round_same}
use lib.Ieee.Positive.{mul_at, positive_of_value}
use Rattle.float.specs.Single.{◌⊗◌, ◌⊘◌, two}

abbrev two_to : ℕ → Float
two_to k = fin false 1 (pos k)

quotient : (x : Float) (n k : ℕ) → HasValue x false n 1 → div binary32 x (two_to k) ≡ round binary32 false n (2 ^ k)
unfolding div
quotient nan n k h = absurd h
quotient (inf s) n k h = absurd h
quotient (fin true m e) n k h = let z : ◌≡◌ {A = ℕ} 0 1 = cc in let x : ⊥ = omega arith in absurd x
quotient (fin false m e) n k h =
    round_same binary32 false (m * up e * 1) (1 * 2 ^ k * down e) n (2 ^ k) (mul-pos (mul-pos (pow_pos 0) (pow_pos k)) (down_pos e)) (pow_pos k)
    (ap (λ (z : ℕ). z * 2 ^ k) h.1 ∙ mul_assoc n (down e) (2 ^ k) ∙ ap (λ (z : ℕ). n * z) (mul_comm (down e) (2 ^ k) ∙ ap (λ (z : ℕ). z * down e) (sym (one-mul (2 ^ k)))))

twice : (n : ℕ) → n < 2 ^ 24 → mul binary32 (div binary32 (of_int binary32 (pos n)) (two_to 24)) (two_to 1) ≡ div binary32 (of_int binary32 (pos n)) (two_to 23)
unfolding of_int mul div
twice zero h = refl
twice (suc m) h =
    ap (λ (u : Float). mul binary32 u (two_to 1)) (quotient (round binary32 false n 1) n 24 whole)
    ∙ mul_at binary32 (round binary32 false n (2 ^ 24)) (two_to 1) n (2 ^ 24) 2 1 (positive_of_value (round binary32 false n (2 ^ 24)) n (2 ^ 24) exact (omega arith)) tt (pow_pos 24) (pow_pos 0) exact (refl, refl)
    ∙ round_same binary32 false (n * 2) (2 ^ 24 * 1) n (2 ^ 23) (pow_pos 24) (pow_pos 23) (mul_assoc n 2 (2 ^ 23))
    ∙ sym (quotient (round binary32 false n 1) n 23 whole)
  where
    n : ℕ
    n = suc m

    whole : HasValue (round binary32 false n 1) false n 1
    whole = round_whole binary32 false n (le_of_lt h)

    exact : HasValue (round binary32 false n (2 ^ 24)) false n (2 ^ 24)
    exact = round_exact binary32 false n (2 ^ 24) n 125 (pow_pos 24) h (lt_of_lt_of_le (shl_lt 24 125 h) (lit≤ tt)) (sym (mul_assoc n (2 ^ 125) (2 ^ 24)))

-- with the literals of the code
pub twice-drawn : (n : ℕ) → n < 2 ^ 24 → of_int binary32 (pos n) ⊘ of_bits binary32 0x4b80_0000 ⊗ two ≡ of_int binary32 (pos n) ⊘ of_bits binary32 0x4b00_0000
unfolding of_bits
twice-drawn n h = twice n h
