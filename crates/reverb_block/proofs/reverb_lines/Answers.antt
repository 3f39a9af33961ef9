use Rattle.std.proofs.Common.{ap, ◌∙◌, ◌++◌, Float, le_refl, arith}
use Rattle.block.specs.Loop.{going_start, going-turn, going_end}
use Rattle.line_step.specs.Line.{reverb_mix}
use Rattle.reverb_block.specs.Reverb as bank
use Rattle.reverb_block.specs.Reverb.{Wet, line_from, reverb_of, reverb_step}
use Rattle.reverb_block.specs.Lines.{line-first}
use Rattle.reverb_block.proofs.reverb_lines.Goals as goal

pub loop-sample-init : goal.loop-sample-init
loop-sample-init c = (going_start _ _ _ _, c.requires)

pub loop-sample-preserved : goal.loop-sample-preserved
unfolding reverb_step reverb_of
loop-sample-preserved c =
    let l = c.loop-sample in
    let a = c.args in
    let s = c.combs-sum.ensures in
    let p = c.allpasses-wet.ensures in
    let g = l.invariant.0 in
    let x = g.todo l.sample-index (le_refl l.sample-index) in
    let e = p.0 _ ∙ ap (λ (r : Wet). bank.allpasses a.lens.now r 4) (s.0 ∙ ap (λ (x : Float). bank.combs a.feedback a.lens.now x (l.lines ++ l.stores, l.places) 6) x) in (
      going-turn _ _ _ _ g (omega arith) (c.reverb_mix.ensures ∙ (λ i. reverb_mix a.mix (x i) (e i).0)) (λ i. (e i).1),
      line-first p.1,
    )

pub returns : goal.returns
returns c =
    let l = c.loop-sample in
    let e = going_end _ _ _ _ l.invariant.0 (omega arith) in
    (e.0, e.1, l.invariant.1)
