use Rattle.std.proofs.Common.{◌≡◌, sym, ap, ◌∙◌, ◌+◌, ◌-◌, arith}
use Rattle.rand_value.specs.Rand.{catch_up, rand_next}
use Rattle.rand_value.proofs.Catch.{rest, turned, caught}
use Rattle.rand_value.proofs.Rand.advance.Goals as goal

pub loop-preserved : goal.loop-preserved
loop-preserved c =
    let l = c.loop in
    let a = c.args in
    ap (rest (65 - (l.counter + 1)) a.from a.to) c.turn.ensures ∙ sym (turned l.counter a.from a.to l.self c.loop-test.true c.if-self.true) ∙ l.invariant

pub returns-else-self : goal.returns-else-self
unfolding rand_next
returns-else-self c =
    let l = c.loop in
    sym (caught (65 - l.counter) c.args.from c.args.to l.self c.if-self.false) ∙ l.invariant

pub returns : goal.returns
unfolding rand_next catch_up
returns c =
    let l = c.loop in
    let none : 0 ≡ 65 - l.counter = omega arith in
    ap (λ n. rest n c.args.from c.args.to l.self) none ∙ l.invariant
