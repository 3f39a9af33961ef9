-- Sine and cosine: x is brought near [-π, π] by whole periods, then near [-π / 4, π / 4] by quarter turns, where fdlibm's polynomials serve.
use Rattle.std.specs.Prelude.{ℕ, zero, suc, ◌-◌, ◌%◌, List, [], ◌∷◌, ℤ, pos, negsuc, Float}
use Rattle.std.specs.Float.{binary64}
use Rattle.std.specs.Float.Ieee.{neg, of_int, to_signed}
use Rattle.rounding.specs.Whole.{round_of}
use Rattle.double.specs.Double.{◌⊕◌, ◌⊖◌, ◌⊗◌, ◌⊘◌, bits, half, one, horner}

-- 2π in three parts, the double nearest to it and what that drops: 6.283185307179586, 2.44929359829470641445e-16, 1.74968224062658175647e-32
abbrev pub pi2_hi : Float
pi2_hi = bits 0x4019_21fb_5444_2d18

abbrev pub pi2_mid : Float
pi2_mid = bits 0x3cb1_a626_3314_5c07

abbrev pub pi2_lo : Float
pi2_lo = bits 0x3956_b651_0916_84d4

-- 1 / 2π, 1.59154943091895335769e-01; π / 2, 1.5707963267948966
abbrev pub inv_pi2 : Float
inv_pi2 = bits 0x3fc4_5f30_6dc9_c883

abbrev pub frac_pi2 : Float
frac_pi2 = bits 0x3ff9_21fb_5444_2d18

-- S1 to S6: -1.66666666666666324348e-01, 8.33333333332248946124e-03, -1.98412698298579493134e-04, 2.75573137070700676789e-06, -2.50507602534068634195e-08, 1.58969099521155010221e-10
abbrev pub sin_s : List Float
sin_s =
    bits 0xbfc5_5555_5555_5549
    ∷ bits 0x3f81_1111_1110_f8a6
    ∷ bits 0xbf2a_01a0_19c1_61d5
    ∷ bits 0x3ec7_1de3_57b1_fe7d
    ∷ bits 0xbe5a_e5e6_8a2b_9ceb
    ∷ bits 0x3de5_d93a_5acf_d57c
    ∷ []

-- C1 to C6: 4.16666666666666019037e-02, -1.38888888888741095749e-03, 2.48015872894767294178e-05, -2.75573143513906633035e-07, 2.08757232129817482790e-09, -1.13596475577881948265e-11
abbrev pub cos_c : List Float
cos_c =
    bits 0x3fa5_5555_5555_554c
    ∷ bits 0xbf56_c16c_16c1_5177
    ∷ bits 0x3efa_01a0_19cb_1590
    ∷ bits 0xbe92_7e4f_809c_52ad
    ∷ bits 0x3e21_ee9e_bdb4_b1c4
    ∷ bits 0xbda8_fae9_be88_38d4
    ∷ []

-- x + x ^ 3 S(x ^ 2)
unfoldable pub sin_poly : Float → Float
sin_poly x = let z = x ⊗ x in x ⊕ x ⊗ z ⊗ horner z sin_s

-- 1 - x ^ 2 / 2 + x ^ 4 C(x ^ 2)
unfoldable pub cos_poly : Float → Float
cos_poly x = let z = x ⊗ x in one ⊖ half ⊗ z ⊕ z ⊗ z ⊗ horner z cos_c

-- x less the nearest number of periods, by Cody and Waite's three steps
unfoldable pub reduce2pi : Float → Float
reduce2pi x = let k = round_of binary64 (x ⊗ inv_pi2) in x ⊖ k ⊗ pi2_hi ⊖ k ⊗ pi2_mid ⊖ k ⊗ pi2_lo

-- q modulo 4
unfoldable pub quadrant_of : ℤ → ℕ
quadrant_of (pos n) = n % 4
quadrant_of (negsuc n) = 3 - n % 4

-- the sine of a and k quarter turns
unfoldable pub turned : ℕ → Float → Float
turned zero a = sin_poly a
turned (suc zero) a = cos_poly a
turned (suc (suc zero)) a = neg (sin_poly a)
turned (suc (suc (suc k))) a = neg (cos_poly a)

-- the sine of an angle that is brought near [-π, π] already: what `sin_of` does next
abbrev pub sin_reduced : Float → Float
sin_reduced r = let q = to_signed 63 (round_of binary64 (r ⊘ frac_pi2)) in turned (quadrant_of q) (r ⊖ of_int binary64 q ⊗ frac_pi2)

-- q is cut off at the ends of an i64's range, so for a huge x the sine is any double
unfoldable pub sin_of : Float → Float
sin_of x =
    let r = reduce2pi x in
    let q = to_signed 63 (round_of binary64 (r ⊘ frac_pi2)) in
    turned (quadrant_of q) (r ⊖ of_int binary64 q ⊗ frac_pi2)

unfoldable pub cos_of : Float → Float
cos_of x = sin_of (x ⊕ frac_pi2)
