use Rattle.std.proofs.Common.{not, T, sym, ap, ◌∙◌, subst}
use lib.Ieee.{Float, binary32, fits, neg, lt, rem}
use Rattle.ieee.proofs.Tests.{null, yes, no, is_true, zero-32, zero-by-zero-32}
use Rattle.ieee.proofs.Read.{above-neg}
use Rattle.float.proofs.Remainder.{rem-abs, rem-neg, rem-level, rem-none}
use Rattle.float.proofs.rem.Goals as goal
use Rattle.float.proofs.rem.Goals.{Start}

x-fits : (c : Start) → T (fits binary32 c.args.x)
x-fits c = subst T (sym c.well_formed.0.1) tt

pub returns-then-x : goal.returns-then-x
returns-then-x c = c.rem_above.ensures ∙ ap (λ (z : Float). rem binary32 c.args.x z) c.abs-z.ensures ∙ rem-abs binary32 c.args.x c.args.y

pub rem_above-requires-then-x-2 : goal.rem_above-requires-then-x-2
rem_above-requires-then-x-2 c = (is_true _ (above-neg c.args.x (yes (rw zero-32 at c.if-x-2.true))), rw zero-32 at c.if-z.true)

pub returns-then-x-2 : goal.returns-then-x-2
returns-then-x-2 c =
    ap neg (c.rem_above-then-x-2.ensures ∙ ap (λ (z : Float). rem binary32 (neg c.args.x) z) c.abs-z.ensures ∙ rem-abs binary32 (neg c.args.x) c.args.y)
    ∙ rem-neg binary32 c.args.x c.args.y (yes (rw zero-32 at c.if-x-2.true))

pub returns-else-x-2 : goal.returns-else-x-2
returns-else-x-2 c =
    rem-level binary32 c.args.x c.args.y (x-fits c.before.before.before.before) (no (rw zero-32 at c.if-x.false)) (no (rw zero-32 at c.if-x-2.false)) (subst (λ (z : Float). T (lt null z)) c.abs-z.ensures (yes (rw zero-32 at c.if-z.true)))

pub returns-else-z : goal.returns-else-z
returns-else-z c = zero-by-zero-32 ∙ rem-none binary32 c.args.x c.args.y (subst (λ (z : Float). T (not (lt null z))) c.abs-z.ensures (no (rw zero-32 at c.if-z.false)))
