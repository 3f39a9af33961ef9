-- The base 10: its logarithm as the definition computes it, and what `pow_of` asks of it.
use mathlib.Core.Path.{◌≡◌, refl}
use mathlib.Core.Bool.{false}
use lib.Ieee.{binary64, of_bits, of_int, neg, add, sub, mul, div, lt, eq, is_nan, round, size}
use Rattle.double.specs.Double.{zero, horner}
use Rattle.det.specs.Log.{exponent_of, mantissa_of, ln_series, ln_folded, ln_of, ten}

pub ln-ten : of_bits binary64 0x4002_6bb1_bbb5_5516 ≡ ln_of ten
unfolding ln_of exponent_of mantissa_of ln_folded ln_series horner of_bits of_int neg add sub mul div lt eq is_nan round size
ln-ten = refl

pub ten-some : eq ten zero ≡ false
unfolding eq of_bits
ten-some = refl

pub ten-above : lt ten zero ≡ false
unfolding lt of_bits
ten-above = refl
