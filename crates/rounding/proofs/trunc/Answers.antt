use mathlib.Core.Path.{sym, ap, ◌∙◌, subst}
use mathlib.Core.Bool.{not}
use lib.Dec.{T}
use lib.Ieee.{Float, binary32, fits, lt, neg}
use lib.Ieee.Fits.{neg-fits}
use Rattle.ieee.proofs.Tests.{yes, no, zero-32}
use Rattle.rounding.specs.Whole.{cut, ceil}
use Rattle.rounding.proofs.Laws.{turned, upward, not-below}
use Rattle.rounding.proofs.trunc.Goals as goal
use Rattle.rounding.proofs.trunc.Goals.{Start}

held : (c : Start) → T (fits binary32 c.args.x)
held c = subst T (sym c.well_formed.0.1) tt

pub returns-then-x : goal.returns-then-x
returns-then-x c =
    let x = c.args.x in
    let h = subst (λ (z : Float). T (lt x z)) zero-32 (yes c.if-x.true) in
    ap neg (c.floor.ensures ∙ upward binary32 cut ceil cut (neg x) (neg-fits binary32 x (held c.before.before)) (not-below x h)) ∙ turned binary32 cut cut x h

pub returns-else-x : goal.returns-else-x
returns-else-x c =
    c.floor-else-x.ensures ∙ upward binary32 cut ceil cut c.args.x (held c.before.before) (subst (λ (z : Float). T (not (lt c.args.x z))) zero-32 (no c.if-x.false))
