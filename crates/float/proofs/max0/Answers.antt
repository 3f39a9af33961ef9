use mathlib.Core.Path.{sym, subst, ◌∙◌}
use lib.Dec.{T}
use Rattle.ieee.proofs.Tests.{null, yes, no, zero-32}
use Rattle.float.proofs.Order.{max-left, max-null}
use Rattle.float.proofs.max0.Goals as goal

pub returns-then-x : goal.returns-then-x
returns-then-x c = max-left c.args.x null (yes (rw zero-32 at c.if-x.true))

pub returns-else-x : goal.returns-else-x
returns-else-x c =
    zero-32 ∙ max-null c.args.x (subst T (sym c.well_formed.0.1) tt) (no (rw zero-32 at c.if-x.false))
