-- Worked values, each the Rust's own answer.
use Rattle.std.specs.Prelude.{◌≡◌, refl}
use Rattle.std.specs.Float.{binary32}
use Rattle.std.specs.Float.Ieee.{of_bits, of_int, to_signed, is_nan, lt, neg, add, sub, mul, div, round}
use Rattle.rounding.specs.Whole.{whole_of}
use Rattle.float.specs.Order.{negative, max_of, clamp_of}
use Rattle.cast.specs.Narrow.{narrow_of}
use Rattle.double.specs.Double.{horner}
use Rattle.trig.specs.Trig.{sin_of, cos_of, reduce2pi, quadrant_of, turned, sin_poly, cos_poly}
use Rattle.exp.specs.Exp.{power_of_two, exp_poly, exp_of}
use Rattle.dsp.specs.Coefficients.{one_pole_of, follower_of, modal_of, feedback_of}

-- 0.01 s at 44,100 Hz
pole-1 : one_pole_of (of_bits binary32 0x3c23_d70a) (of_bits binary32 0x472c_4400) ≡ of_bits binary32 0x3f7f_6b90
unfolding one_pole_of narrow_of exp_of exp_poly power_of_two horner whole_of of_bits of_int to_signed lt neg add sub mul div round
pole-1 = refl

-- 0 s, which counts as 0.1 ms, at 48,000 Hz
follower-1 : follower_of (of_bits binary32 0) (of_bits binary32 0x473b_8000) ≡ of_bits binary32 0x3f4f_db0f
unfolding follower_of max_of is_nan negative one_pole_of narrow_of exp_of exp_poly power_of_two horner whole_of of_bits of_int to_signed lt neg add sub mul div round
follower-1 = refl

-- a mode of 440 Hz that rings for 0.5 s, with the gain 0.8, at 44,100 Hz
modal-1 : modal_of (of_bits binary32 0x43dc_0000) (of_bits binary32 0x3f00_0000) (of_bits binary32 0x3f4c_cccd) 44100 ≡ record { a1 = of_bits binary32 0x3fff_6ac7; a2 = of_bits binary32 0xbf7f_d6f4; b0 = of_bits binary32 0x3d4d_493a }
unfolding modal_of clamp_of max_of is_nan negative narrow_of exp_of exp_poly power_of_two horner whole_of cos_of sin_of reduce2pi quadrant_of turned sin_poly cos_poly of_bits of_int to_signed lt neg add sub mul div round
modal-1 = refl

-- rooms of 0.3 and 7
feedback-1 : feedback_of (of_bits binary32 0x3e99_999a) ≡ of_bits binary32 0x3f48_b439
unfolding feedback_of clamp_of lt of_bits add mul
feedback-1 = refl

feedback-2 : feedback_of (of_bits binary32 0x40e0_0000) ≡ of_bits binary32 0x3f7a_e148
unfolding feedback_of clamp_of lt of_bits add mul
feedback-2 = refl
