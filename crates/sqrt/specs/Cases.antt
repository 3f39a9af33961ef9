use Rattle.std.specs.Prelude.{◌≡◌, false, pos, refl}
use Rattle.std.specs.Float.{fin, binary32}
use Rattle.std.specs.Float.Ieee.{of_bits}
use Rattle.sqrt.specs.Sqrt.{sqrt_of}

-- 2.0, 4.0, the smallest f32, the largest
root-1 : sqrt_of (of_bits binary32 0x4000_0000) ≡ of_bits binary32 0x3fb5_04f3
unfolding sqrt_of of_bits
root-1 = refl

root-2 : sqrt_of (of_bits binary32 0x4080_0000) ≡ fin false 1 (pos 1)
unfolding sqrt_of of_bits
root-2 = refl

root-3 : sqrt_of (of_bits binary32 1) ≡ of_bits binary32 0x1a35_04f3
unfolding sqrt_of of_bits
root-3 = refl

root-4 : sqrt_of (of_bits binary32 0x7f7f_ffff) ≡ of_bits binary32 0x5f7f_ffff
unfolding sqrt_of of_bits
root-4 = refl
