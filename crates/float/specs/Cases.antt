-- Worked cases of the definitions, by computation: the numbers on the right are f32 and f64 patterns as rustc's own operations give them.
use Rattle.std.specs.Prelude.{◌≡◌, refl}
use Rattle.std.specs.Float.{binary32}
use Rattle.std.specs.Float.Ieee.{of_bits, add, rem, lt, is_nan}
use Rattle.float.specs.Order.{max_of, min_of, negative, abs_of}
use Rattle.float.specs.Euclid.{rem_euclid_of}

-- max of -0 and +0, min of +0 and -0, max of a NaN and 1
max-1 : max_of (of_bits binary32 0x8000_0000) (of_bits binary32 0) ≡ of_bits binary32 0
unfolding max_of is_nan lt negative of_bits
max-1 = refl

min-1 : min_of (of_bits binary32 0) (of_bits binary32 0x8000_0000) ≡ of_bits binary32 0x8000_0000
unfolding min_of is_nan lt negative of_bits
min-1 = refl

max-2 : max_of (of_bits binary32 0x7fc0_0000) (of_bits binary32 0x3f80_0000) ≡ of_bits binary32 0x3f80_0000
unfolding max_of is_nan lt negative of_bits
max-2 = refl

-- rem_euclid of -1 by 4, and of -2 ^ -30 by 4, which rounds up to 4
euclid-1 : rem_euclid_of binary32 (of_bits binary32 0xbf80_0000) (of_bits binary32 0x4080_0000) ≡ of_bits binary32 0x4040_0000
unfolding rem_euclid_of abs_of rem lt add of_bits
euclid-1 = refl

euclid-2 : rem_euclid_of binary32 (of_bits binary32 0xb080_0000) (of_bits binary32 0x4080_0000) ≡ of_bits binary32 0x4080_0000
unfolding rem_euclid_of abs_of rem lt add of_bits
euclid-2 = refl
