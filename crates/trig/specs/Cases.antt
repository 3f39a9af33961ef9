-- Worked values, each the Rust's own answer.
use Rattle.std.specs.Prelude.{◌≡◌, refl}
use Rattle.std.specs.Float.Ieee.{of_bits, of_int, to_signed, neg, add, sub, mul, div}
use Rattle.rounding.specs.Whole.{whole_of}
use Rattle.double.specs.Double.{bits, zero, horner}
use Rattle.trig.specs.Trig.{sin_poly, cos_poly, reduce2pi, quadrant_of, turned, sin_of, cos_of}

-- the sine of 1.0, 5.0, -0.0, and 1e22, which is too large for an exact reduction
sin-1 : sin_of (bits 0x3ff0_0000_0000_0000) ≡ bits 0x3fea_ed54_8f09_0cee
unfolding sin_of reduce2pi quadrant_of turned sin_poly cos_poly horner whole_of of_bits of_int to_signed neg add sub mul div
sin-1 = refl

sin-2 : sin_of (bits 0x4014_0000_0000_0000) ≡ bits 0xbfee_af81_f5e0_9933
unfolding sin_of reduce2pi quadrant_of turned sin_poly cos_poly horner whole_of of_bits of_int to_signed neg add sub mul div
sin-2 = refl

sin-3 : sin_of (bits 0x8000_0000_0000_0000) ≡ zero
unfolding sin_of reduce2pi quadrant_of turned sin_poly cos_poly horner whole_of of_bits of_int to_signed neg add sub mul div
sin-3 = refl

sin-4 : sin_of (bits 0x4480_f0cf_064d_d592) ≡ bits 0xbfeb_e23e_dff6_3952
unfolding sin_of reduce2pi quadrant_of turned sin_poly cos_poly horner whole_of of_bits of_int to_signed neg add sub mul div
sin-4 = refl

-- the cosine of 0.5
cos-1 : cos_of (bits 0x3fe0_0000_0000_0000) ≡ bits 0x3fec_1528_065b_7d50
unfolding cos_of sin_of reduce2pi quadrant_of turned sin_poly cos_poly horner whole_of of_bits of_int to_signed neg add sub mul div
cos-1 = refl
