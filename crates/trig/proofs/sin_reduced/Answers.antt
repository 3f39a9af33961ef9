use mathlib.Core.Path.{sym, ap, ◌∙◌}
use lib.Ieee.{binary64, div, neg}
use lib.Ieee.Fits.{div-fits}
use Rattle.ieee.proofs.Tests.{yes, no}
use Rattle.trig.specs.Trig.{frac_pi2}
use Rattle.trig.proofs.Quarter.{halves-1, halves-3, halves-5, round-1, round-2, round-below-1, round-below-2, turns-0, turns-1, turns-2, turns-below-1, turns-below-2, sin-0, sin-1, sin-2, sin-below-1, sin-below-2}
use Rattle.trig.proofs.sin_reduced.Goals as goal

pub returns-then-z-2 : goal.returns-then-z-2
returns-then-z-2 c =
    let r = c.args.r in
    c.sin_poly.ensures ∙ sym (sin-0 r (turns-0 (div binary64 r frac_pi2) (div-fits binary64 r frac_pi2) (yes (rw halves-1 at c.if-z.true)) (yes (rw halves-1 at c.if-z-2.true))))

pub returns-then-z-3 : goal.returns-then-z-3
returns-then-z-3 c =
    let r = c.args.r in
    ap neg c.cos_poly.ensures ∙ sym (sin-below-1 r (turns-below-1 (div binary64 r frac_pi2) (round-below-1 (div binary64 r frac_pi2) (div-fits binary64 r frac_pi2) (no (rw halves-1 at c.if-z-2.false)) (yes (rw halves-3 at c.if-z-3.true)))))

pub returns-then-z-4 : goal.returns-then-z-4
returns-then-z-4 c =
    let r = c.args.r in
    ap neg c.sin_poly-then-z-4.ensures ∙ sym (sin-below-2 r (turns-below-2 (div binary64 r frac_pi2) (round-below-2 (div binary64 r frac_pi2) (div-fits binary64 r frac_pi2) (no (rw halves-1 at c.if-z-2.false)) (no (rw halves-3 at c.if-z-3.false)) (yes (rw halves-5 at c.if-z-4.true)))))

pub returns-then-z-5 : goal.returns-then-z-5
returns-then-z-5 c =
    let r = c.args.r in
    c.cos_poly-then-z-5.ensures ∙ sym (sin-1 r (turns-1 (div binary64 r frac_pi2) (round-1 (div binary64 r frac_pi2) (div-fits binary64 r frac_pi2) (no (rw halves-1 at c.if-z.false)) (yes (rw halves-3 at c.if-z-5.true)))))

pub returns-then-z-6 : goal.returns-then-z-6
returns-then-z-6 c =
    let r = c.args.r in
    ap neg c.sin_poly-then-z-6.ensures ∙ sym (sin-2 r (turns-2 (div binary64 r frac_pi2) (round-2 (div binary64 r frac_pi2) (div-fits binary64 r frac_pi2) (no (rw halves-1 at c.if-z.false)) (no (rw halves-3 at c.if-z-5.false)) (yes (rw halves-5 at c.if-z-6.true)))))

pub returns : goal.returns
returns c = c.sin_turned.ensures
