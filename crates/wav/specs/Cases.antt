-- Worked cases of a sample's 16 bits, by computation.
use Rattle.std.specs.Prelude.{◌≡◌, refl}
use Rattle.std.specs.Float.{nan, binary32}
use Rattle.std.specs.Float.Ieee.{of_bits, neg, mul, lt, of_int, to_signed}
use Rattle.rounding.specs.Whole.{whole_of}
use Rattle.float.specs.Order.{clamp_of}
use Rattle.wav.specs.Wav.{pcm16_of}

-- a NaN, 1 and -2
case-nan : pcm16_of nan ≡ 0
unfolding pcm16_of to_signed whole_of mul clamp_of lt neg of_bits
case-nan = refl

case-one : pcm16_of (of_bits binary32 0x3f80_0000) ≡ 0x7fff
unfolding pcm16_of to_signed whole_of mul clamp_of lt neg of_bits
case-one = refl

case-minus-two : pcm16_of (of_bits binary32 0xc000_0000) ≡ 0x8001
unfolding pcm16_of to_signed whole_of mul clamp_of lt neg of_bits
case-minus-two = refl

-- 0.5 and -0.5: 16,383.5 goes away from zero
case-half : pcm16_of (of_bits binary32 0x3f00_0000) ≡ 16384
unfolding pcm16_of to_signed whole_of mul clamp_of lt neg of_bits of_int
case-half = refl

case-minus-half : pcm16_of (of_bits binary32 0xbf00_0000) ≡ 0xc000
unfolding pcm16_of to_signed whole_of mul clamp_of lt neg of_bits of_int
case-minus-half = refl
