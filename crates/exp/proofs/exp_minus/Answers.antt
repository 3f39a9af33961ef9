use mathlib.Core.Path.{ap, ◌∙◌}
use lib.Ieee.{binary64, neg, mul, of_bits}
use Rattle.ieee.proofs.Tests.{no, half-64}
use Rattle.exp.specs.Exp.{inv_ln2, exp_of}
use Rattle.exp.proofs.Above.{Sum, quotient, minus-under-max, minus-over-min, minus-rounded}
use Rattle.exp.proofs.exp_minus.Goals as goal
use Rattle.exp.proofs.exp_minus.Goals.{Start}

-- `quotient` is the one lemma of this function and of `exp_above`: each cites it in lines of its own, since each goal has a name of its own.
view : (c : Start) → Sum (of_bits binary64 0x4330_0000_0000_0000) (mul binary64 c.args.x inv_ln2)
view c = quotient c.args.x c.requires.least c.requires.most

pub float_to_bits-result : goal.float_to_bits-result
float_to_bits-result c = (view c.before.before).number

pub overflow_sub-result : goal.overflow_sub-result
overflow_sub-result c = (view c.before.before).minus_room

pub float_from_bits-result : goal.float_from_bits-result
float_from_bits-result c = (view c.before.before).minus_number

pub returns : goal.returns
unfolding exp_of
returns c =
    let k = ap neg ((view c.before.before).rounded (no (rw half-64 at c.if-y-h.false))) ∙ minus-rounded c.args.x c.requires.least c.requires.most in
    rw (minus-under-max c.args.x c.requires.least c.requires.most, minus-over-min c.args.x c.requires.least c.requires.most, (view c.before.before).minus_power, c.exp_poly.ensures, k)
