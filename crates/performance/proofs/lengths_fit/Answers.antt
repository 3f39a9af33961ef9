use Rattle.std.specs.Prelude.{length}
use Rattle.std.proofs.Common.{arith}
use Rattle.performance.specs.List.{length_at, fit_none, fit-turn, fit-over, fit_all}
use Rattle.performance.proofs.lengths_fit.Goals as goal

pub loop-k-init : goal.loop-k-init
loop-k-init c = fit_none _ _

pub returns-then-left-x : goal.returns-then-left-x
returns-then-left-x c =
    let s = c.args in
    let l = c.loop-k in
    fit-over (length_at s.calls.now) l.k (length s.calls.now) l.left s.n l.invariant c.loop-k-test.true (omega (arith, c.length-x.ensures, c.if-left-x.true))

pub loop-k-preserved : goal.loop-k-preserved
loop-k-preserved c =
    let s = c.args in
    let l = c.loop-k in
    rw c.length-x.ensures (fit-turn (length_at s.calls.now) l.k l.left s.n l.invariant (omega (arith, c.length-x.ensures, c.if-left-x.false)))

pub returns : goal.returns
returns c =
    let s = c.args in
    let l = c.loop-k in
    fit_all (length_at s.calls.now) l.k (length s.calls.now) l.left s.n l.invariant (omega arith)
