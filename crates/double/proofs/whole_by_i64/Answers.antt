use mathlib.Core.Path.{sym, subst}
use lib.Dec.{T}
use Rattle.ieee.proofs.Tests.{yes, zero-64, two-52}
use Rattle.double.proofs.Small.{small}
use Rattle.double.proofs.whole_by_i64.Goals as goal

pub returns-then-w-2 : goal.returns-then-w-2
returns-then-w-2 c =
    rw zero-64 (sym (small c.args.w (subst T (sym c.well_formed.0.1) tt) c.requires (yes (rw two-52 at c.if-w.true)) (yes (rw two-52 at c.if-w-2.true))).back)
