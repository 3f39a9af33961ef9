-- Worked values, each the Rust's own answer.
use Rattle.std.specs.Prelude.{◌≡◌, refl, Float}
use Rattle.std.specs.Float.{binary32}
use Rattle.std.specs.Float.Ieee.{of_bits, lt, add, sub, mul, div}
use Rattle.float.specs.Order.{clamp_of}
use Rattle.envelope.specs.Envelope.{level, adsr_of}

-- with a = 0.01, d = 0.1, s = 0.6, r = 0.2 and the release from 0.5 on, at the time t and with the punch given
abbrev at : Float → Float → Float
at t punch = adsr_of (record { a = of_bits binary32 0x3c23_d70a; d = of_bits binary32 0x3dcc_cccd; s = of_bits binary32 0x3f19_999a; r = of_bits binary32 0x3e4c_cccd; punch = punch }) t (of_bits binary32 0x3f00_0000)

-- 0.003 without a punch and with 0.5; 0.05; 0.3; 0.55; 0.8
adsr-1 : at (of_bits binary32 0x3b44_9ba6) (of_bits binary32 0) ≡ of_bits binary32 0x3e99_999a
unfolding adsr_of level clamp_of lt of_bits add sub mul div
adsr-1 = refl

adsr-2 : at (of_bits binary32 0x3b44_9ba6) (of_bits binary32 0x3f00_0000) ≡ of_bits binary32 0x3ee4_4e33
unfolding adsr_of level clamp_of lt of_bits add sub mul div
adsr-2 = refl

adsr-3 : at (of_bits binary32 0x3d4c_cccd) (of_bits binary32 0x3f00_0000) ≡ of_bits binary32 0x3f88_d7f9
unfolding adsr_of level clamp_of lt of_bits add sub mul div
adsr-3 = refl

adsr-4 : at (of_bits binary32 0x3e99_999a) (of_bits binary32 0x3f00_0000) ≡ of_bits binary32 0x3f19_999a
unfolding adsr_of level clamp_of lt of_bits add sub mul div
adsr-4 = refl

adsr-5 : at (of_bits binary32 0x3f0c_cccd) (of_bits binary32 0x3f00_0000) ≡ of_bits binary32 0x3ee6_6666
unfolding adsr_of level clamp_of lt of_bits add sub mul div
adsr-5 = refl

adsr-6 : at (of_bits binary32 0x3f4c_cccd) (of_bits binary32 0x3f00_0000) ≡ of_bits binary32 0
unfolding adsr_of level clamp_of lt of_bits add sub mul div
adsr-6 = refl

-- a NaN as the punch is none
adsr-7 : at (of_bits binary32 0x3b44_9ba6) (of_bits binary32 0x7fc0_0000) ≡ of_bits binary32 0x3e99_999a
unfolding adsr_of level clamp_of lt of_bits add sub mul div
adsr-7 = refl
