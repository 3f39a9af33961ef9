use lib.Ieee.{binary32}
use Rattle.ieee.proofs.Build.{build, no-nan-bits}
use Rattle.ieee.proofs.from_units.Goals as goal

pub float_from_bits-result : goal.float_from_bits-result
float_from_bits-result c = no-nan-bits binary32 c.args.q c.args.k c.requires.0 c.requires.1 c.requires.2

pub returns : goal.returns
returns c = build binary32 c.args.q c.args.k c.requires.0 c.requires.1 c.requires.2
