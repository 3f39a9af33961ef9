use mathlib.Core.Path.{sym, subst}
use lib.Dec.{T}
use lib.Ieee.{binary64, fits}
use Rattle.ieee.proofs.Tests.{yes, no, two-52, one-64, half-64}
use Rattle.ieee.proofs.Whole.{half-raise, half-stays}
use Rattle.rounding.proofs.round_above_f64.Goals as goal
use Rattle.rounding.proofs.round_above_f64.Goals.{Start}

held : (c : Start) → T (fits binary64 c.args.y)
held c = subst T (sym c.well_formed.0.1) tt

pub returns-then-y-t : goal.returns-then-y-t
returns-then-y-t c =
    rw (two-52, one-64) (half-raise binary64 c.args.y (held c.before) c.requires.above_zero c.requires.has_fraction (yes (rw (two-52, half-64) at c.if-y-t.true)))

pub returns-else-y-t : goal.returns-else-y-t
returns-else-y-t c =
    rw two-52 (half-stays binary64 c.args.y (held c.before) c.requires.above_zero c.requires.has_fraction (no (rw (two-52, half-64) at c.if-y-t.false)))
