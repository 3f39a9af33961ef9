use mathlib.Core.Path.{sym, subst}
use lib.Dec.{T}
use lib.Ieee.{binary32, fits}
use Rattle.ieee.proofs.Tests.{yes, no, two-23, one-32}
use Rattle.ieee.proofs.Whole.{ceil-raise, ceil-stays}
use Rattle.rounding.proofs.ceil_above.Goals as goal
use Rattle.rounding.proofs.ceil_above.Goals.{Start}

held : (c : Start) → T (fits binary32 c.args.y)
held c = subst T (sym c.well_formed.0.1) tt

pub returns-then-t-y : goal.returns-then-t-y
returns-then-t-y c =
    rw (two-23, one-32) (ceil-raise binary32 c.args.y (held c.before) c.requires.above_zero c.requires.has_fraction (yes (rw two-23 at c.if-t-y.true)))

pub returns-else-t-y : goal.returns-else-t-y
returns-else-t-y c =
    rw two-23 (ceil-stays binary32 c.args.y (held c.before) c.requires.above_zero c.requires.has_fraction (no (rw two-23 at c.if-t-y.false)))
