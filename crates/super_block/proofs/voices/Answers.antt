use Rattle.std.proofs.Common.{◌≡◌, refl, ap, ◌∙◌, Float, length-set, set}
use native.Mathlib.Omega.{arith}
use Rattle.float.specs.Single.{◌⊕◌}
use Rattle.block.specs.Bank.{units, units-turn}
use Rattle.super_block.specs.Super.{voice_at}
use Rattle.super_block.proofs.voices.Goals as goal

pub loop-k-init : goal.loop-k-init
unfolding units
loop-k-init c = (refl, refl)

pub loop-k-preserved : goal.loop-k-preserved
unfolding voice_at
loop-k-preserved c =
    let l = c.loop-k in (
      units-turn _ _ l.invariant.0 (ap (λ (v : Float × Float). (l.sum ⊕ v.0, set l.cells l.k v.1)) c.super_voice-y.ensures),
      length-set l.cells l.k _ ∙ l.invariant.1,
    )

pub returns : goal.returns
returns c =
    let l = c.loop-k in
    let e : l.k ≡ c.args.n = omega arith in
    (rw e at l.invariant.0, l.invariant.1)
