use lib.Ieee.{binary64, mul, of_bits}
use Rattle.ieee.proofs.Tests.{no, half-64}
use Rattle.exp.specs.Exp.{inv_ln2, exp_of}
use Rattle.exp.proofs.Above.{Sum, quotient, under-max, over-min}
use Rattle.exp.proofs.exp_above.Goals as goal
use Rattle.exp.proofs.exp_above.Goals.{Start}

view : (c : Start) → Sum (of_bits binary64 0x4330_0000_0000_0000) (mul binary64 c.args.x inv_ln2)
view c = quotient c.args.x c.requires.least c.requires.most

pub float_to_bits-result : goal.float_to_bits-result
float_to_bits-result c = (view c.before.before).number

pub overflow_add-result : goal.overflow_add-result
overflow_add-result c = record { fits = (view c.before.before).room }

pub float_from_bits-result : goal.float_from_bits-result
float_from_bits-result c = (view c.before.before).field_number

pub returns : goal.returns
unfolding exp_of
returns c =
    let k = (view c.before.before).rounded (no (rw half-64 at c.if-y-k.false)) in
    rw (under-max c.args.x c.requires.least c.requires.most, over-min c.args.x c.requires.least c.requires.most, (view c.before.before).power, c.exp_poly.ensures, k)
