use mathlib.Core.Path.{sym, subst}
use lib.Dec.{T}
use lib.Ieee.{binary32, fits}
use Rattle.ieee.proofs.Tests.{yes, no, two-23, one-32}
use Rattle.ieee.proofs.Whole.{floor-down, floor-keep}
use Rattle.rounding.proofs.floor_above.Goals as goal
use Rattle.rounding.proofs.floor_above.Goals.{Start}

held : (c : Start) → T (fits binary32 c.args.y)
held c = subst T (sym c.well_formed.0.1) tt

pub returns-then-y-t : goal.returns-then-y-t
returns-then-y-t c =
    rw (two-23, one-32) (floor-down binary32 c.args.y (held c.before) c.requires.above_zero c.requires.has_fraction (yes (rw two-23 at c.if-y-t.true)))

pub returns-else-y-t : goal.returns-else-y-t
returns-else-y-t c =
    rw two-23 (floor-keep binary32 c.args.y (held c.before) c.requires.above_zero c.requires.has_fraction (no (rw two-23 at c.if-y-t.false)))
