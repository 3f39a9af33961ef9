-- Worked values, each the Rust's own answer.
use Rattle.std.specs.Prelude.{◌≡◌, refl}
use Rattle.std.specs.Float.Ieee.{of_bits, of_int, to_signed, size, is_nan, neg, lt, eq, add, sub, mul, div}
use Rattle.rounding.specs.Whole.{whole_of}
use Rattle.double.specs.Double.{bits, zero, horner}
use Rattle.exp.specs.Exp.{power_of_two, exp_poly, exp_of, expm1_small}
use Rattle.det.specs.Log.{exponent_of, mantissa_of, ln_series, ln_folded, ln_of, pow_of, log10_of}
use Rattle.det.specs.Tanh.{tanh_above, tanh_of}

-- ln of 2, 0, the smallest double, and an infinity, which counts as 2 ^ 1024
ln-1 : ln_of (bits 0x4000_0000_0000_0000) ≡ bits 0x3fe6_2e42_fefa_39ef
unfolding ln_of exponent_of mantissa_of ln_series ln_folded horner of_bits of_int size is_nan lt eq add sub mul div
ln-1 = refl

ln-2 : ln_of zero ≡ bits 0xfff0_0000_0000_0000
unfolding ln_of exponent_of mantissa_of ln_series ln_folded horner of_bits of_int size is_nan lt eq add sub mul div
ln-2 = refl

ln-3 : ln_of (bits 0x0000_0000_0000_0001) ≡ bits 0xc087_4385_446d_71c3
unfolding ln_of exponent_of mantissa_of ln_series ln_folded horner of_bits of_int size is_nan lt eq add sub mul div
ln-3 = refl

ln-4 : ln_of (bits 0x7ff0_0000_0000_0000) ≡ bits 0x4086_2e42_fefa_39ef
unfolding ln_of exponent_of mantissa_of ln_series ln_folded horner of_bits of_int size is_nan lt eq add sub mul div
ln-4 = refl

-- 10 ^ 0.25; log10 of 1000, one place below 3
pow-1 : pow_of (bits 0x4024_0000_0000_0000) (bits 0x3fd0_0000_0000_0000) ≡ bits 0x3ffc_73d5_1c54_470f
unfolding pow_of exp_of exp_poly power_of_two horner whole_of of_bits to_signed lt add sub mul div ln_of exponent_of mantissa_of ln_series ln_folded of_int size is_nan eq
pow-1 = refl

log10-1 : log10_of (bits 0x408f_4000_0000_0000) ≡ bits 0x4007_ffff_ffff_ffff
unfolding log10_of ln_of exponent_of mantissa_of ln_series ln_folded horner of_bits of_int size is_nan lt eq add sub mul div
log10-1 = refl

-- tanh of 0.1, -0.1, 5 and -30
tanh-1 : tanh_of (bits 0x3fb9_9999_9999_999a) ≡ bits 0x3fb9_83d7_795f_413a
unfolding tanh_of tanh_above expm1_small of_int is_nan neg exp_of exp_poly power_of_two horner whole_of of_bits to_signed lt add sub mul div
tanh-1 = refl

tanh-2 : tanh_of (bits 0xbfb9_9999_9999_999a) ≡ bits 0xbfb9_83d7_795f_413a
unfolding tanh_of tanh_above expm1_small of_int is_nan neg exp_of exp_poly power_of_two horner whole_of of_bits to_signed lt add sub mul div
tanh-2 = refl

tanh-3 : tanh_of (bits 0x4014_0000_0000_0000) ≡ bits 0x3fef_ff41_9668_df11
unfolding tanh_of tanh_above expm1_small of_int is_nan neg exp_of exp_poly power_of_two horner whole_of of_bits to_signed lt add sub mul div
tanh-3 = refl

tanh-4 : tanh_of (bits 0xc03e_0000_0000_0000) ≡ bits 0xbff0_0000_0000_0000
unfolding tanh_of tanh_above expm1_small of_int is_nan neg exp_of exp_poly power_of_two horner whole_of of_bits to_signed lt add sub mul div
tanh-4 = refl
