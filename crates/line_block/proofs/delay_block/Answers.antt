use mathlib.Core.Path.{refl, ap, ◌∙◌}
use Prim.Native.Nat.{ℕ, ◌+◌, ◌%◌}
use native.Mathlib.Nat.{le_refl}
use native.Mathlib.Omega.{arith}
use lib.ListN.{get_or, set, length-set}
use lib.Ieee.{Float, nan}
use Rattle.block.specs.Loop.{going_start, going-turn}
use Rattle.line_step.specs.Line.{delay_of}
-- Both files name the step: the invariant states it, and here it is unfolded.
use Rattle.line_block.specs.Steps.{delay_step}
use Rattle.line_block.proofs.delay_block.Goals as goal

pub loop-k-init : goal.loop-k-init
loop-k-init c = (going_start _ _ _ _, refl, c.requires)

pub loop-k-preserved : goal.loop-k-preserved
unfolding delay_step
loop-k-preserved c =
    let l = c.loop-k in
    let a = c.args in
    let g = l.invariant.0 in
    let y = c.delay-y.ensures ∙ ap (λ (x : Float). delay_of a.feedback x (get_or l.line l.w nan)) (g.todo l.k (le_refl l.k)) in
    let long = length-set l.line l.w c.delay-y.result ∙ l.invariant.1 in (
      going-turn _ _ _ _ g (omega arith) y (λ i. (set l.line l.w (y i), (c.next_place-w.ensures.0 ∙ ap (λ (n : ℕ). (l.w + 1) % n) long) i)),
      long,
      c.next_place-w.ensures.1,
    )
