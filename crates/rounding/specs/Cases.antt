-- Worked cases of the definitions, by computation: the numbers on the right are f32 and f64 patterns as rustc's own operations give them.
use Rattle.std.specs.Prelude.{◌≡◌, refl}
use Rattle.std.specs.Float.{binary32, binary64}
use Rattle.std.specs.Float.Ieee.{of_bits, of_int, neg, sub}
use Rattle.rounding.specs.Whole.{whole_of, floor_of, trunc_of, round_of, fract_of}

-- floor of -0.5, 2.75, -2.75, -0.0, 8388607.5
floor-1 : floor_of binary32 (of_bits binary32 0xbf00_0000) ≡ of_bits binary32 0xbf80_0000
unfolding whole_of of_bits of_int neg
floor-1 = refl

floor-2 : floor_of binary32 (of_bits binary32 0x4030_0000) ≡ of_bits binary32 0x4000_0000
unfolding whole_of of_bits of_int neg
floor-2 = refl

floor-3 : floor_of binary32 (of_bits binary32 0xc030_0000) ≡ of_bits binary32 0xc040_0000
unfolding whole_of of_bits of_int neg
floor-3 = refl

floor-4 : floor_of binary32 (of_bits binary32 0x8000_0000) ≡ of_bits binary32 0x8000_0000
unfolding whole_of of_bits of_int neg
floor-4 = refl

floor-5 : floor_of binary32 (of_bits binary32 0x4aff_ffff) ≡ of_bits binary32 0x4aff_fffe
unfolding whole_of of_bits of_int neg
floor-5 = refl

-- trunc of -0.5 keeps the sign; fract of -0.25 is -0.25
trunc-1 : trunc_of binary32 (of_bits binary32 0xbf00_0000) ≡ of_bits binary32 0x8000_0000
unfolding whole_of of_bits of_int neg
trunc-1 = refl

fract-1 : fract_of binary32 (of_bits binary32 0xbe80_0000) ≡ of_bits binary32 0xbe80_0000
unfolding whole_of of_bits of_int neg sub
fract-1 = refl

-- round of 0.49999999999999994, 2.5 and -2.5
round-1 : round_of binary64 (of_bits binary64 0x3fdf_ffff_ffff_ffff) ≡ of_bits binary64 0
unfolding whole_of of_bits of_int neg
round-1 = refl

round-2 : round_of binary64 (of_bits binary64 0x4004_0000_0000_0000) ≡ of_bits binary64 0x4008_0000_0000_0000
unfolding whole_of of_bits of_int neg
round-2 = refl

round-3 : round_of binary64 (of_bits binary64 0xc004_0000_0000_0000) ≡ of_bits binary64 0xc008_0000_0000_0000
unfolding whole_of of_bits of_int neg
round-3 = refl
