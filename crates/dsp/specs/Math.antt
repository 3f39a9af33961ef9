-- det.rs's functions as dsp.rs calls them: worked out in f64 and rounded to f32 once.
use Rattle.std.specs.Prelude.{◌≡◌, refl, Float}
use Rattle.std.proofs.Common.{ap}
use Rattle.std.specs.Float.Ieee.{round, of_bits, of_int, to_signed, is_nan, neg, lt, add, sub, mul, div}
use Rattle.rounding.specs.Whole.{whole_of}
use Rattle.cast.specs.Narrow.{narrow_of}
use Rattle.trig.specs.Trig.{sin_of, cos_of}
use Rattle.double.specs.Double.{horner}
use Rattle.exp.specs.Exp.{power_of_two, exp_poly, exp_of, expm1_small}
use Rattle.det.specs.Log.{ln_of, pow_of, log10_of}
use Rattle.det.specs.Tanh.{tanh_above, tanh_of}
use Rattle.float.specs.Single.{◌⊕◌, zero, one}

abbrev pub sine : Float → Float
sine x = narrow_of (sin_of x)

abbrev pub cosine : Float → Float
cosine x = narrow_of (cos_of x)

abbrev pub exponential : Float → Float
exponential x = narrow_of (exp_of x)

abbrev pub logarithm : Float → Float
logarithm x = narrow_of (ln_of x)

-- before it is rounded, as det.rs's power takes it
abbrev pub wide_logarithm : Float → Float
wide_logarithm x = ln_of x

abbrev pub power : Float → Float → Float
power x y = narrow_of (pow_of x y)

abbrev pub tangent : Float → Float
tangent x = narrow_of (tanh_of x)

tanh-zero : tanh_of zero ≡ zero
unfolding tanh_of tanh_above expm1_small of_int is_nan neg exp_of exp_poly power_of_two horner whole_of of_bits to_signed lt add sub mul div
tanh-zero = refl

pub tangent-zero : tangent zero ≡ zero
unfolding narrow_of of_bits round
tangent-zero = ap narrow_of tanh-zero

abbrev pub logarithm10 : Float → Float
logarithm10 x = narrow_of (log10_of x)

-- ln (1 + x), with the sum rounded
abbrev pub logarithm1p : Float → Float
logarithm1p x = logarithm (one ⊕ x)
