use mathlib.Core.Path.{◌≡◌, refl}
use Prim.Native.Nat.{◌+◌, ◌<◌}
use native.Mathlib.Omega.{arith}
use lib.ListN.{length-set}
use Rattle.block.specs.Bank.{units, units-turn}
use Rattle.reverb_block.specs.Lines.{line-next, line-again, allpass-turn}
use Rattle.reverb_block.proofs.allpasses.Goals as goal

pub loop-k-init : goal.loop-k-init
unfolding units
loop-k-init c = (λ ss. refl, c.requires)

pub loop-k-preserved : goal.loop-k-preserved
loop-k-preserved c =
    let l = c.loop-k in
    let w = c.next_place.ensures in
    let b : 6 + l.k < 10 = omega arith in
    (λ ss. units-turn _ _ (l.invariant.0 ss) (allpass-turn l.invariant.1 b l.wet ss c.allpass-y.ensures w.0), line-next l.invariant.1 b w.1 (simp length-set) (omega arith))

pub returns : goal.returns
returns c =
    let l = c.loop-k in
    let e : l.k ≡ 4 = omega arith in
    (λ ss. rw e at (l.invariant.0 ss), line-again l.invariant.1 c.requires.start)
