-- exp: x = k ln 2 + r with a whole k, e ^ r by fdlibm's fraction, and a scaling by 2 ^ k.
use Rattle.std.specs.Prelude.{ℕ, false, cond, List, [], ◌∷◌, ℤ, pos, negsuc, ltb, Float}
use Rattle.std.specs.Float.{inf, fin, binary64}
use Rattle.std.specs.Float.Ieee.{lt, of_int, to_signed}
use Rattle.rounding.specs.Whole.{round_of}
use Rattle.double.specs.Double.{◌⊖◌, ◌⊗◌, ◌⊘◌, bits, zero, one, two, horner}

-- ln 2 in two parts, 6.93147180369123816490e-01 and 1.90821492927058770002e-10; 1 / ln 2, 1.4426950408889634
abbrev pub ln2_hi : Float
ln2_hi = bits 0x3fe6_2e42_fee0_0000

abbrev pub ln2_lo : Float
ln2_lo = bits 0x3dea_39ef_3579_3c76

abbrev pub inv_ln2 : Float
inv_ln2 = bits 0x3ff7_1547_652b_82fe

-- 2 ^ k: an infinity above 1023 and zero below -1074.
unfoldable pub power_of_two : ℤ → Float
power_of_two (pos n) = cond (ltb 1023 n) (inf false) (fin false 1 (pos n))
power_of_two (negsuc n) = cond (ltb 1073 n) (fin false 0 (pos 0)) (fin false 1 (negsuc n))

-- P1 to P5: 1.66666666666666019037e-01, -2.77777777770155933842e-03, 6.61375632143793436117e-05, -1.65339022054652515390e-06, 4.13813679705723846039e-08
abbrev pub exp_p : List Float
exp_p =
    bits 0x3fc5_5555_5555_553e
    ∷ bits 0xbf66_c16c_16be_bd93
    ∷ bits 0x3f11_566a_af25_de2c
    ∷ bits 0xbebb_bd41_c5d2_6bf1
    ∷ bits 0x3e66_3769_72be_a4d0
    ∷ []

-- e ^ r near 0: c = r - r ^ 2 P(r ^ 2), and 1 - (r c / (c - 2) - r)
unfoldable pub exp_poly : Float → Float
exp_poly r =
    let t = r ⊗ r in
    let c = r ⊖ t ⊗ horner t exp_p in
    one ⊖ (r ⊗ c ⊘ (c ⊖ two) ⊖ r)

-- 7.09782712893383e+02 and -7.45133219101941e+02
abbrev pub exp_max : Float
exp_max = bits 0x4086_2e42_fefa_39e6

abbrev pub exp_min : Float
exp_min = bits 0xc087_4910_d52d_3050

unfoldable pub exp_of : Float → Float
exp_of x =
    let k = round_of binary64 (x ⊗ inv_ln2) in
    cond (lt exp_max x) (inf false) (cond (lt x exp_min) zero (exp_poly (x ⊖ k ⊗ ln2_hi ⊖ k ⊗ ln2_lo) ⊗ power_of_two (to_signed 63 k)))

-- 1 / n
abbrev pub per : ℕ → Float
per n = one ⊘ of_int binary64 (pos n)

-- e ^ x - 1 near 0: x / 1! + x ^ 2 / 2! + .. + x ^ 11 / 11!
unfoldable pub expm1_small : Float → Float
expm1_small x = x ⊗ horner x (one ∷ per 2 ∷ per 6 ∷ per 24 ∷ per 120 ∷ per 720 ∷ per 5040 ∷ per 40320 ∷ per 362880 ∷ per 3628800 ∷ per 39916800 ∷ [])
