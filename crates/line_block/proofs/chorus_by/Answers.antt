use mathlib.Core.Path.{refl, ◌∙◌}
use native.Mathlib.Nat.{le_refl}
use native.Mathlib.Omega.{arith}
use lib.ListN.{get_or, set, length-set}
use lib.Ieee.{Float, nan}
use Rattle.block.specs.Loop.{going_start, going-turn}
use Rattle.line_step.specs.declared.ChorusRead.{ChorusRead}
use Rattle.line_step.specs.Line.{chorus_of}
-- Both files name the step: the invariant states it, and here it is unfolded.
use Rattle.line_block.specs.Steps.{chorus_by_step}
use Rattle.line_block.proofs.chorus_by.Goals as goal

pub loop-k-init : goal.loop-k-init
loop-k-init c = (going_start _ _ _ _, refl, c.requires.0)

pub loop-k-preserved : goal.loop-k-preserved
unfolding chorus_by_step
loop-k-preserved c =
    let l = c.loop-k in
    let a = c.args in
    let g = l.invariant.0 in
    let x = g.todo l.k (le_refl l.k) in
    let r = c.chorus_place-r.ensures.0 in
    let long = length-set l.line l.w (get_or l.out l.k nan) ∙ l.invariant.1 in
    let mixed : Float → ChorusRead → Float = λ x r. chorus_of a.c.mix r.frac x (get_or (set l.line l.w x) r.i0 nan) (get_or (set l.line l.w x) r.i1 nan) in (
      going-turn _ _ _ _ g (omega arith) (c.chorus.ensures ∙ (λ i. mixed (x i) (r i))) (λ i. (set l.line l.w (x i), c.next_place-w.ensures.0 i)),
      long,
      omega (arith, long, c.next_place-w.ensures.1),
    )
