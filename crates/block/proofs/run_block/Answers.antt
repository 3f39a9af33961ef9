use Rattle.std.proofs.Common.{◌≡◌, ap, sym}
use native.Mathlib.Nat.{le_refl}
use native.Mathlib.Omega.{arith}
use Rattle.block.specs.Loop.{going_start, going-turn, going_end}
use Rattle.block.proofs.run_block.Goals as goal

pub loop-k-init : goal.loop-k-init
loop-k-init g c = λ f e. going_start _ f _ _

pub loop-k-preserved : goal.loop-k-preserved
loop-k-preserved g c = λ f e.
    let l = c.loop-k in
    let r : c.step-y.result ≡ f l.k l.state = e l.k l.state c.step-y.result c.loop-k-test.true (rw (sym ((l.invariant f e).todo l.k (le_refl l.k))) c.step-y.ensures) in
    going-turn _ f _ _ (l.invariant f e) (omega arith) (ap (λ p. p.0) r) (ap (λ p. p.1) r)

pub returns : goal.returns
returns g c = λ f e. going_end _ f _ _ (c.loop-k.invariant f e) (omega arith)
