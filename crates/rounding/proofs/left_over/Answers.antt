use mathlib.Core.Path.{sym, ap, ◌∙◌, subst}
use lib.Dec.{T}
use lib.Ieee.{Float, binary32, lt, sub}
use Rattle.ieee.proofs.Tests.{two_to, yes, no, zero-32, one-32}
use Rattle.rounding.proofs.Phase.{first-period, second-period, one-above, two-32}
use Rattle.rounding.proofs.left_over.Goals as goal

pub returns-then-x-2 : goal.returns-then-x-2
returns-then-x-2 g c = λ n e.
    first-period n c.args.x (subst T (sym c.well_formed.0.1) tt) (yes (rw zero-32 at c.if-x-2.true)) (yes (rw one-32 at c.if-x.true))

pub returns-then-x-3 : goal.returns-then-x-3
returns-then-x-3 g c = λ n e.
    let x = c.args.x in
    let least = no (rw one-32 at c.if-x.false) in
    let most : T (lt x (two_to 1)) = yes (rw two-32 at c.if-x-3.true) in
    ap (λ (w : Float). sub binary32 x w) one-32 ∙ second-period n x (subst T (sym c.well_formed.0.1) tt) (one-above x least most) least most

pub returns : goal.returns
returns g c = λ n e. rw (e _ c.whole.ensures)
