-- Waveshapers: the curve, and its antiderivative for antiderivative antialiasing (Parker, Zavalishin and Le Bivic).
use Rattle.std.specs.Prelude.{Bool, true, false, cond, ℕ, zero, suc, Float}
use Rattle.std.specs.Float.{binary32}
use Rattle.std.specs.Float.Ieee.{neg, lt, le, of_bits}
use Rattle.float.specs.Order.{abs_of, is_finite, clamp_of}
use Rattle.float.specs.Euclid.{rem_euclid_of}
use Rattle.float.specs.Single.{◌⊕◌, ◌⊖◌, ◌⊗◌, half, one, two, three, four}
use Rattle.dsp.specs.Math.{exponential, tangent, logarithm1p}
use Rattle.dsl.specs.declared.DriveShape.{DriveShape}
use Rattle.dsl.specs.declared.DriveShape.TheVariants.{Tanh, Hard, Fold}

abbrev pub minus_one : Float
minus_one = neg one

abbrev pub minus_two : Float
minus_two = neg two

-- Reflected at 1 and at -1 until it is between them, n times at most, and then clamped. The tests are arguments: above says that y is above 1, below that it is below -1.
unfoldable pub fold_by : ℕ → Bool → Bool → Float → Float
fold_by zero above below y = clamp_of y minus_one one
fold_by (suc n) true below y = let z = two ⊖ y in fold_by n (lt one z) (lt z minus_one) z
fold_by (suc n) false true y = let z = minus_two ⊖ y in fold_by n (lt one z) (lt z minus_one) z
fold_by (suc n) false false y = y

-- after the 1,025th fold the sample is clamped; what is not finite gives 0
unfoldable pub fold_of : Float → Float
fold_of x = cond (is_finite x) (fold_by 1025 (lt one x) (lt x minus_one) x) (of_bits binary32 0)

unfoldable pub drive_of : DriveShape → Float → Float
drive_of Tanh x = tangent x
drive_of Hard x = clamp_of x minus_one one
drive_of Fold x = fold_of x

-- ln cosh x as |x| + ln (1 + d) - ln 2, with d = e ^ (-2 |x|), which does not overflow
abbrev pub decay_of : Float → Float
decay_of x = exponential (minus_two ⊗ abs_of x)

abbrev pub ln_cosh : Float → Float → Float
ln_cosh x d = abs_of x ⊕ logarithm1p d ⊖ of_bits binary32 0x3f31_7218

-- ln cosh x; x² / 2 up to 1 and |x| - 1 / 2 beyond; the parabolas of a triangle wave of period 4
unfoldable pub antiderivative_of : DriveShape → Float → Float
antiderivative_of Tanh x = ln_cosh x (decay_of x)
antiderivative_of Hard x = let a = abs_of x in cond (le a one) (half ⊗ x ⊗ x) (a ⊖ half)
antiderivative_of Fold x =
    let p = rem_euclid_of binary32 (x ⊕ one) four in
    cond (le p two) (half ⊗ (p ⊖ one) ⊗ (p ⊖ one)) (one ⊖ half ⊗ (p ⊖ three) ⊗ (p ⊖ three))
