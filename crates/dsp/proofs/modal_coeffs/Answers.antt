use Rattle.std.proofs.Common.{◌≡◌, refl}
use Rattle.std.specs.Float.{binary32}
use Rattle.std.specs.Float.Ieee.{neg, of_bits}
use Rattle.dsp.specs.Coefficients.{modal_of}
use Rattle.dsp.proofs.modal_coeffs.Goals as goal

-- the code has the number -ln 1000 as one literal
minus : neg (of_bits binary32 0x40dd_0c54) ≡ of_bits binary32 0xc0dd_0c54
unfolding neg of_bits
minus = refl

pub returns : goal.returns
unfolding modal_of
returns c =
    rw (c.cos-cos0.ensures, c.sin-sin0.ensures, c.exp-r.ensures, c.max-2.ensures, c.clamp-f0.ensures, c.max.ensures, c.u32_to_f32-srf.ensures, minus)
