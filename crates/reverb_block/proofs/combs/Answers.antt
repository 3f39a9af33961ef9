use mathlib.Core.Path.{◌≡◌, refl}
use Prim.Native.Nat.{◌<◌}
use native.Mathlib.Omega.{arith}
use lib.ListN.{length-set}
use Rattle.block.specs.Bank.{units, units-turn}
use Rattle.reverb_block.specs.Lines.{line-next, comb-turn}
use Rattle.reverb_block.proofs.combs.Goals as goal

pub loop-k-init : goal.loop-k-init
unfolding units
loop-k-init c = (refl, c.requires)

pub loop-k-preserved : goal.loop-k-preserved
loop-k-preserved c =
    let l = c.loop-k in
    let a = c.args in
    let o = c.comb-y in
    let w = c.next_place.ensures in
    let b : l.k < 10 = omega arith in (
      units-turn _ _ l.invariant.0 (comb-turn l.invariant.1 b a.feedback a.x l.wet l.stores o.ensures w.0),
      line-next l.invariant.1 b w.1 (simp length-set) refl,
    )

pub returns : goal.returns
returns c =
    let l = c.loop-k in
    let e : l.k ≡ 6 = omega arith in
    (rw e at l.invariant.0, rw e at l.invariant.1)
