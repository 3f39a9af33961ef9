use mathlib.Core.Path.{sym, subst}
use lib.Dec.{T}
use lib.Ieee.{binary32, fits}
use Rattle.ieee.proofs.Tests.{zero-32, two-23}
use Rattle.rounding.specs.Whole.{ceil, cut}
use Rattle.rounding.proofs.Laws.{ceil-one, cut-one, asks-above, asks-below, gives-above, gives-below, ends_above, ends-below, ends-level}
use Rattle.rounding.proofs.floor.Goals as goal
use Rattle.rounding.proofs.floor.Goals.{Start, else-x-3-via-then-x-3+else-x-4, else-x-3-via-else-x-3}

held : (c : Start) → T (fits binary32 c.args.x)
held c = subst T (sym c.well_formed.0.1) tt

pub floor_above-requires : goal.floor_above-requires
floor_above-requires c =
    let both = asks-above binary32 _ _ zero-32 two-23 cut ceil c.args.x (held c.before.before) c.if-x.true c.if-x-2.true in record { above_zero = both.0; has_fraction = both.1 }

pub returns-then-x-2 : goal.returns-then-x-2
returns-then-x-2 c =
    gives-above binary32 _ _ zero-32 two-23 cut ceil c.args.x (held c.before.before.before) _ cut-one c.if-x.true c.if-x-2.true c.floor_above.ensures

pub returns-else-x-2 : goal.returns-else-x-2
returns-else-x-2 c =
    ends_above binary32 _ _ zero-32 two-23 cut ceil c.args.x (held c.before.before) c.if-x.true c.if-x-2.false

pub ceil_above-requires : goal.ceil_above-requires
ceil_above-requires c =
    let both = asks-below binary32 _ _ zero-32 two-23 cut ceil c.args.x (held c.before.before.before) c.if-x-3.true c.if-x-4.true in record { above_zero = both.0; has_fraction = both.1 }

pub returns-then-x-4 : goal.returns-then-x-4
returns-then-x-4 c =
    gives-below binary32 _ _ zero-32 two-23 cut ceil c.args.x (held c.before.before.before.before) _ ceil-one c.if-x-3.true c.if-x-4.true c.ceil_above.ensures

pub returns-else-x-3 : goal.returns-else-x-3
returns-else-x-3 c =
    elim c.else-x-3.branch [
      | else-x-3-via-then-x-3+else-x-4 w ↦ ends-below binary32 _ _ zero-32 two-23 cut ceil c.args.x (held c.before.before) w.if-x-3.true w.if-x-4.false
      | else-x-3-via-else-x-3 w ↦ ends-level binary32 _ _ zero-32 two-23 cut ceil c.args.x (held c.before.before) c.if-x.false w.if-x-3.false
    ]
