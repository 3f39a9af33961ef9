use mathlib.Core.Path.{◌≡◌, refl}
use lib.Ieee.{binary64, div, of_bits, of_int}
use Rattle.double.specs.Double.{horner}
use Rattle.exp.specs.Exp.{per, expm1_small}
use Rattle.exp.proofs.expm1_small.Goals as goal

fact-2 : of_bits binary64 0x3fe0_0000_0000_0000 ≡ per 2
unfolding div of_bits of_int
fact-2 = refl

fact-3 : of_bits binary64 0x3fc5_5555_5555_5555 ≡ per 6
unfolding div of_bits of_int
fact-3 = refl

fact-4 : of_bits binary64 0x3fa5_5555_5555_5555 ≡ per 24
unfolding div of_bits of_int
fact-4 = refl

fact-5 : of_bits binary64 0x3f81_1111_1111_1111 ≡ per 120
unfolding div of_bits of_int
fact-5 = refl

fact-6 : of_bits binary64 0x3f56_c16c_16c1_6c17 ≡ per 720
unfolding div of_bits of_int
fact-6 = refl

fact-7 : of_bits binary64 0x3f2a_01a0_1a01_a01a ≡ per 5040
unfolding div of_bits of_int
fact-7 = refl

fact-8 : of_bits binary64 0x3efa_01a0_1a01_a01a ≡ per 40320
unfolding div of_bits of_int
fact-8 = refl

fact-9 : of_bits binary64 0x3ec7_1de3_a556_c734 ≡ per 362880
unfolding div of_bits of_int
fact-9 = refl

fact-10 : of_bits binary64 0x3e92_7e4f_b778_9f5c ≡ per 3628800
unfolding div of_bits of_int
fact-10 = refl

fact-11 : of_bits binary64 0x3e5a_e645_67f5_44e4 ≡ per 39916800
unfolding div of_bits of_int
fact-11 = refl

pub returns : goal.returns
unfolding expm1_small horner
returns c = rw (fact-2, fact-3, fact-4, fact-5, fact-6, fact-7, fact-8, fact-9, fact-10, fact-11)
