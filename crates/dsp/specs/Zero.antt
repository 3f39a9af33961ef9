-- Where the passes of ln cosh begin: e ^ -0 and ln (1 + 1).
use Rattle.std.specs.Prelude.{◌≡◌, refl}
use Rattle.std.specs.Float.{binary32}
use Rattle.std.specs.Float.Ieee.{of_bits, of_int, to_signed, size, is_nan, neg, lt, eq, add, sub, mul, div, round}
use Rattle.rounding.specs.Whole.{whole_of}
use Rattle.float.specs.Single.{zero, one}
use Rattle.cast.specs.Narrow.{narrow_of}
use Rattle.double.specs.Double.{horner}
use Rattle.exp.specs.Exp.{power_of_two, exp_poly, exp_of}
use Rattle.det.specs.Log.{exponent_of, mantissa_of, ln_series, ln_folded, ln_of}
use Rattle.dsp.specs.Math.{exponential, logarithm1p}

pub exponential-zero : exponential (neg zero) ≡ one
unfolding exp_of exp_poly power_of_two horner whole_of narrow_of of_bits of_int to_signed lt neg add sub mul div round
exponential-zero = refl

pub logarithm1p-one : logarithm1p one ≡ of_bits binary32 0x3f31_7218
unfolding ln_of exponent_of mantissa_of ln_series ln_folded horner narrow_of of_bits of_int size is_nan lt eq neg add sub mul div round
logarithm1p-one = refl
