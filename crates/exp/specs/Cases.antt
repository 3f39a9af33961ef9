-- Worked values, each the Rust's own answer.
use Rattle.std.specs.Prelude.{◌≡◌, refl}
use Rattle.std.specs.Float.Ieee.{of_bits, of_int, to_signed, neg, lt, add, sub, mul, div}
use Rattle.rounding.specs.Whole.{whole_of}
use Rattle.double.specs.Double.{bits, zero, horner}
use Rattle.exp.specs.Exp.{power_of_two, exp_poly, exp_of}

-- e; an infinity at 710, and at 709.7 too, where k is 1024
exp-1 : exp_of (bits 0x3ff0_0000_0000_0000) ≡ bits 0x4005_bf0a_8b14_576a
unfolding exp_of exp_poly power_of_two horner whole_of of_bits of_int to_signed neg lt add sub mul div
exp-1 = refl

exp-2 : exp_of (bits 0x4086_3000_0000_0000) ≡ bits 0x7ff0_0000_0000_0000
unfolding exp_of exp_poly power_of_two horner whole_of of_bits of_int to_signed neg lt add sub mul div
exp-2 = refl

exp-3 : exp_of (bits 0x4086_2d99_9999_999a) ≡ bits 0x7ff0_0000_0000_0000
unfolding exp_of exp_poly power_of_two horner whole_of of_bits of_int to_signed neg lt add sub mul div
exp-3 = refl

-- subnormal at -710, zero at -746, and at -709.2, where k is -1023
exp-4 : exp_of (bits 0xc086_3000_0000_0000) ≡ bits 0x0003_3802_fd28_b3c3
unfolding exp_of exp_poly power_of_two horner whole_of of_bits of_int to_signed neg lt add sub mul div
exp-4 = refl

exp-5 : exp_of (bits 0xc087_5000_0000_0000) ≡ zero
unfolding exp_of exp_poly power_of_two horner whole_of of_bits of_int to_signed neg lt add sub mul div
exp-5 = refl

exp-6 : exp_of (bits 0xc086_2999_9999_999a) ≡ bits 0x0007_29df_2854_d340
unfolding exp_of exp_poly power_of_two horner whole_of of_bits of_int to_signed neg lt add sub mul div
exp-6 = refl
