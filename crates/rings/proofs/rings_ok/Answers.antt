use Rattle.std.proofs.Common.{sym, ◌∙◌, arith}
use borrow.Author.Count.{below_none, below_more}
use Rattle.sheet.specs.Laws.{all_of, all-fails}
use Rattle.rings.proofs.rings_ok.Goals as goal

pub loop-i-init : goal.loop-i-init
loop-i-init c = below_none _

pub record_ok-requires : goal.record_ok-requires
record_ok-requires c = (c.requires.0, c.requires.1, omega (arith, c.args.plan.now.made.passed.count))

pub returns-then-not-record_ok : goal.returns-then-not-record_ok
returns-then-not-record_ok c =
    sym (all-fails _ _ c.loop-i.i (omega (arith, c.args.plan.now.made.passed.count)) (sym c.record_ok.ensures ∙ c.if-not-record_ok.true))

pub loop-i-preserved : goal.loop-i-preserved
loop-i-preserved c = below_more _ c.loop-i.i c.loop-i.invariant (sym c.record_ok.ensures ∙ c.if-not-record_ok.false)

pub returns : goal.returns
returns c = sym (all_of _ _ (λ j h. c.loop-i.invariant j (omega (arith, c.args.plan.now.made.passed.count))))
