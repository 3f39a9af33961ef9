-- The tens of both formats are one number.
use Rattle.std.proofs.Common.{◌≡◌, refl}
use Rattle.std.specs.Float.{binary32, binary64}
use Rattle.std.specs.Float.Ieee.{of_bits}
use Rattle.dsp.proofs.pow10.Goals as goal

ten : of_bits binary64 0x4024_0000_0000_0000 ≡ of_bits binary32 0x4120_0000
unfolding of_bits
ten = refl

pub returns : goal.returns
returns c = rw (c.pow10f.ensures, ten)
