use lib.Ieee.{binary64, mul}
use lib.Ieee.Fits.{mul-fits}
use Rattle.ieee.proofs.Tests.{yes, no, zero-64}
use Rattle.trig.specs.Trig.{inv_pi2, reduce2pi}
use Rattle.trig.proofs.Quarter.{halves-1, halves-3, int-1, round-0, round-1}
use Rattle.trig.proofs.reduce_2pi.Goals as goal

pub returns-then-y-2 : goal.returns-then-y-2
unfolding reduce2pi
returns-then-y-2 c =
    let x = c.args.x in
    rw (zero-64, round-0 (mul binary64 x inv_pi2) (mul-fits binary64 x inv_pi2) (yes (rw zero-64 at c.if-y-2.true)) (yes (rw halves-1 at c.if-y.true)))

pub returns-then-y-3 : goal.returns-then-y-3
unfolding reduce2pi
returns-then-y-3 c =
    let x = c.args.x in
    rw (round-1 (mul binary64 x inv_pi2) (mul-fits binary64 x inv_pi2) (no (rw halves-1 at c.if-y.false)) (yes (rw halves-3 at c.if-y-3.true)), int-1)

pub returns : goal.returns
unfolding reduce2pi
returns c = rw c.round_f64-k.ensures
