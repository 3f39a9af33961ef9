use Rattle.std.specs.Prelude.{◌≡◌, true, false, pos, refl}
use Rattle.std.specs.Float.{inf, fin, binary32, binary64}
use Rattle.std.specs.Float.Ieee.{of_bits, round}
use Rattle.cast.specs.Narrow.{narrow_of}

-- 0.1; the half-way case above the largest f32; the smallest f64; half of the smallest f32, a tie to even
narrow-1 : narrow_of (of_bits binary64 0x3fb9_9999_9999_999a) ≡ of_bits binary32 0x3dcc_cccd
unfolding narrow_of of_bits round
narrow-1 = refl

narrow-2 : narrow_of (of_bits binary64 0x47ef_ffff_f000_0000) ≡ inf false
unfolding narrow_of of_bits round
narrow-2 = refl

narrow-3 : narrow_of (of_bits binary64 0x8000_0000_0000_0001) ≡ fin true 0 (pos 0)
unfolding narrow_of of_bits round
narrow-3 = refl

narrow-4 : narrow_of (of_bits binary64 0x3690_0000_0000_0000) ≡ fin false 0 (pos 0)
unfolding narrow_of of_bits round
narrow-4 = refl
