use mathlib.Core.Path.{◌∙◌}
use Rattle.ieee.proofs.Tests.{zero-by-zero-64}
use Rattle.det.specs.Log.{pow_of}
use Rattle.double.proofs.Tests.{one-by-zero}
use Rattle.det.proofs.powf_by.Goals as goal

pub returns-then-y : goal.returns-then-y
unfolding pow_of
returns-then-y c = rw c.if-y.true

pub returns-then-y-2 : goal.returns-then-y-2
unfolding pow_of
returns-then-y-2 c = rw (c.if-y.false, c.if-x.true, c.if-y-2.true)

pub returns-else-y-2 : goal.returns-else-y-2
unfolding pow_of
returns-else-y-2 c = one-by-zero ∙ rw (c.if-y.false, c.if-x.true, c.if-y-2.false)

pub returns-then-x-2 : goal.returns-then-x-2
unfolding pow_of
returns-then-x-2 c = zero-by-zero-64 ∙ rw (c.if-y.false, c.if-x.false, c.if-x-2.true)

pub returns-else-x-2 : goal.returns-else-x-2
unfolding pow_of
returns-else-x-2 c =
    rw (c.exp.ensures, c.requires, c.if-y.false, c.if-x.false, c.if-x-2.false)
