use mathlib.Core.Path.{sym, ◌∙◌, subst}
use lib.Dec.{T}
use lib.Ieee.{binary64, add, to_signed}
use lib.Ieee.Casts.{to_signed_in}
use mir.Syntax.{w64}
use mir.ValLaws.{to_z-of_z}
use Rattle.ieee.proofs.Tests.{null, yes, zero-64, two-52}
use Rattle.double.proofs.Small.{Small, small}
use Rattle.double.proofs.whole_to_i64.Goals as goal
use Rattle.double.proofs.whole_to_i64.Goals.{Then-w-2}

view : (c : Then-w-2) → Small c.args.w
view c =
    small c.args.w (subst T (sym c.well_formed.0.1) tt) c.requires (yes (rw two-52 at c.if-w.true)) (yes (rw two-52 at c.if-w-2.true))

pub float_to_int-result : goal.float_to_int-result
float_to_int-result c = rw zero-64 (view c.before).cast

pub returns-then-w-2 : goal.returns-then-w-2
returns-then-w-2 c =
    let v = add binary64 c.args.w null in
    rw zero-64 (to_z-of_z w64 (to_signed 63 v) (record { sfits = to_signed_in 63 v }) ∙ (view c.before).same)
