use mathlib.Core.Path.{sym, subst}
use lib.Dec.{T}
use lib.Ieee.{binary32, fits}
use Rattle.float.specs.Euclid.{rem_euclid_of}
use Rattle.ieee.proofs.Tests.{yes, no, zero-32}
use Rattle.float.proofs.Euclid.{first-turn, second-turn, turn-back}
use Rattle.float.proofs.rem_euclid.Goals as goal
use Rattle.float.proofs.rem_euclid.Goals.{Start}

x_fits : (s : Start) → T (fits binary32 s.args.x)
x_fits s = subst T (sym s.well_formed.0.1) tt

y-fits : (s : Start) → T (fits binary32 s.args.y)
y-fits s = subst T (sym s.well_formed.1.0.1) tt

pub returns-then-x-y : goal.returns-then-x-y
returns-then-x-y c =
    first-turn binary32 c.args.x c.args.y (x_fits c.before.before) (yes (rw zero-32 at c.if-x.true)) (yes c.if-x-y.true)

pub returns-then-d-y : goal.returns-then-d-y
returns-then-d-y c =
    second-turn binary32 c.args.x c.args.y (y-fits c.before.before.before) (yes (rw zero-32 at c.if-x.true)) (no c.if-x-y.false) (yes c.if-d-y.true)

pub returns-then-x-y-2 : goal.returns-then-x-y-2
returns-then-x-y-2 c =
    turn-back binary32 c.args.x c.args.y (x_fits c.before.before.before) (yes (rw zero-32 at c.if-x-2.true)) (yes c.if-x-y-2.true)

pub returns-then-r : goal.returns-then-r
unfolding rem_euclid_of
returns-then-r c = rw (← zero-32, ← c.rem-r.ensures, c.if-r.true, c.abs.ensures)

pub returns-else-r : goal.returns-else-r
unfolding rem_euclid_of
returns-else-r c = rw (← zero-32, ← c.rem-r.ensures, c.if-r.false)
