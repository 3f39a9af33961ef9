use mathlib.Core.Path.{sym, subst}
use lib.Dec.{T}
use lib.Ieee.{binary64, fits}
use Rattle.ieee.proofs.Tests.{zero-64, two-52}
use Rattle.rounding.specs.Whole.{half}
use Rattle.rounding.proofs.Laws.{half-one, asks-above, asks-below, gives-above, gives-below, ends_above, ends-below, ends-level}
use Rattle.rounding.proofs.round_f64.Goals as goal
use Rattle.rounding.proofs.round_f64.Goals.{Start, else-x-3-via-then-x-3+else-x-4, else-x-3-via-else-x-3}

held : (c : Start) → T (fits binary64 c.args.x)
held c = subst T (sym c.well_formed.0.1) tt

pub round_above_f64-requires : goal.round_above_f64-requires
round_above_f64-requires c =
    let both = asks-above binary64 _ _ zero-64 two-52 half half c.args.x (held c.before.before) c.if-x.true c.if-x-2.true in record { above_zero = both.0; has_fraction = both.1 }

pub returns-then-x-2 : goal.returns-then-x-2
returns-then-x-2 c =
    gives-above binary64 _ _ zero-64 two-52 half half c.args.x (held c.before.before.before) _ half-one c.if-x.true c.if-x-2.true c.round_above_f64.ensures

pub returns-else-x-2 : goal.returns-else-x-2
returns-else-x-2 c =
    ends_above binary64 _ _ zero-64 two-52 half half c.args.x (held c.before.before) c.if-x.true c.if-x-2.false

pub round_above_f64-requires-then-x-4 : goal.round_above_f64-requires-then-x-4
round_above_f64-requires-then-x-4 c =
    let both = asks-below binary64 _ _ zero-64 two-52 half half c.args.x (held c.before.before.before) c.if-x-3.true c.if-x-4.true in record { above_zero = both.0; has_fraction = both.1 }

pub returns-then-x-4 : goal.returns-then-x-4
returns-then-x-4 c =
    gives-below binary64 _ _ zero-64 two-52 half half c.args.x (held c.before.before.before.before) _ half-one c.if-x-3.true c.if-x-4.true c.round_above_f64-then-x-4.ensures

pub returns-else-x-3 : goal.returns-else-x-3
returns-else-x-3 c =
    elim c.else-x-3.branch [
      | else-x-3-via-then-x-3+else-x-4 w ↦ ends-below binary64 _ _ zero-64 two-52 half half c.args.x (held c.before.before) w.if-x-3.true w.if-x-4.false
      | else-x-3-via-else-x-3 w ↦ ends-level binary64 _ _ zero-64 two-52 half half c.args.x (held c.before.before) c.if-x.false w.if-x-3.false
    ]
