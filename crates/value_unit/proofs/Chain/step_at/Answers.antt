use Rattle.std.proofs.Common.{◌≡◌, sym, ap, ◌∙◌, ◌+◌, ◌-◌, arith}
use Rattle.sheet.specs.Record.{number_of}
use Rattle.value_unit.specs.Laws.{step_at, step-here, step-turn}
use Rattle.value_unit.proofs.Chain.step_at.Goals as goal

pub loop-preserved : goal.loop-preserved
loop-preserved c =
    let l = c.loop in
    let s = c.args.self.sheet.now in
    let t = step-turn s c.args.self.count c.args.self.passed c.args.self.nexts.now c.args.self.table l.j (c.args.k - l.counter) l.invariant.0 (omega arith) l.invariant.1 in
    let e : c.args.k - l.counter - 1 ≡ c.args.k - (l.counter + 1) = omega arith in
    (t.0, rw (← e) t.2, ap (step_at s _) (sym e) ∙ sym t.1 ∙ l.invariant.2)

pub returns : goal.returns
returns c =
    let l = c.loop in
    let z : c.args.k - l.counter ≡ 0 = omega arith in
    c.number.ensures ∙ ap (λ r. number_of r 0) c.at.ensures ∙ step-here c.args.self.sheet.now c.args.self.count c.args.self.passed l.j l.invariant.0 (omega (arith, l.invariant.1))
    ∙ ap (step_at c.args.self.sheet.now l.j) (sym z) ∙ l.invariant.2
