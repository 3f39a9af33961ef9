use mathlib.Core.Path.{◌≡◌, ap, ◌∙◌}
use mathlib.Core.List.{List}
use Prim.Native.Nat.{ℕ, ◌≤◌, ◌<◌}
use native.Mathlib.Omega.{arith}
use lib.ListN.{length}
use Rattle.std.proofs.lemmas.List.{length-take-le}
use lib.Ieee.{Float, nan}
use Rattle.block.specs.Iterate.{at, given, given-at, given-same, after_same}
use Rattle.line_step.specs.Line.{chorus_place, chorus_read}
use Rattle.proc_block.specs.Steps.{lfo_step}
use Rattle.line_block.specs.Steps.{chorus_at, chorus_step, chorus_by_step}
use Rattle.line_block.proofs.chorus_block.Goals as goal

-- ys are the sines, in a buffer of m
step_is : (xs : List Float) (base swing rate srf mix : Float) (len t m : ℕ) {ys : List Float} → length xs ≤ m → ys ≡ given (lfo_step rate srf t) tt m
    → (k : ℕ) → k < length xs → (u : List Float × ℕ) → chorus_by_step xs ys base swing mix len k u ≡ chorus_step xs base swing rate srf mix len t k u
unfolding lfo_step chorus_by_step chorus_step chorus_read
step_is xs base swing rate srf mix len t m long e k h u =
    ap {B = Float × (List Float × ℕ)} (λ y. chorus_at mix len (chorus_place base swing y len u.1) (at xs k) u)
    (ap (λ (l : List Float). at l k) e ∙ given-at (lfo_step rate srf t) tt m k nan (omega arith))

pub returns : goal.returns
returns c =
    let a = c.args in
    let e = c.chorus_by.ensures in
    let same = step_is a.out.now a.c.base a.c.swing a.c.rate a.srf a.c.mix (length a.line.now) a.t _ (omega (arith, length-take-le (length a.out.now) a.buf.now c.requires.2)) c.lfo_block.ensures in
    (e.0 ∙ given-same _ _ _ _ same, e.1 ∙ after_same _ _ _ _ same, e.2)
