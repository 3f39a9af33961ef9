use Rattle.std.proofs.Common.{ap, ◌∙◌, Float, rules}
use native.Mathlib.Omega.{arith}
use Rattle.block.specs.Loop.{going_start, going-turn, going_end}
use Rattle.float.specs.Single.{◌⊗◌, ◌⊘◌, one}
use Rattle.super_block.specs.Super as bank
use Rattle.super_block.specs.Super.{super_of, super_step}
use Rattle.super_block.proofs.super_block.Goals as goal

pub loop-k-init : goal.loop-k-init
loop-k-init c = going_start _ _ _ _

pub loop-k-preserved : goal.loop-k-preserved
unfolding super_step super_of
loop-k-preserved c =
    let l = c.loop-k in
    let u = c.u64_to_f32-scale in
    let a = c.args in
    let e = c.voices.ensures.0 ∙ ap (λ (f : Float). bank.voices a.wave f a.w.srf a.n l.cells a.n) (search rules) in
    going-turn _ _ _ _ l.invariant (omega arith) (λ i. (e i).0 ⊗ (one ⊘ u.ensures i)) (λ i. (e i).1)

-- Modal's block ends in the same words, and a lemma for the two would be no shorter.
pub returns : goal.returns
returns c = let e = going_end _ _ _ _ c.loop-k.invariant (omega arith) in (e.0, e.1, omega arith)
