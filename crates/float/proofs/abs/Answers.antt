use mathlib.Core.Path.{sym, subst}
use lib.Dec.{T}
use lib.Ieee.{binary32}
use Rattle.ieee.proofs.Tests.{yes, no, zero-32}
use Rattle.float.proofs.Order.{abs-above, abs-else}
use Rattle.float.proofs.abs.Goals as goal

pub returns-then-x : goal.returns-then-x
returns-then-x c = abs-above c.args.x (yes (rw zero-32 at c.if-x.true))

pub returns-else-x : goal.returns-else-x
returns-else-x c =
    rw zero-32 (abs-else binary32 c.args.x (subst T (sym c.well_formed.0.1) tt) (no (rw zero-32 at c.if-x.false)))
