use mathlib.Core.Path.{refl, ap, ◌∙◌}
use native.Mathlib.Omega.{arith}
use Rattle.layout.specs.Built.{after}
use Rattle.walk.specs.Walk.{voiced, parts-of}
use Rattle.walk.specs.Leaf.{count-is, count-some, count-none, given-none, given-one, given-two, first-value, second-value, lends-value, played-at, played-sound}
use Rattle.walk.proofs.values.Goals as goal

pub returns-in_default : goal.returns-in_default
returns-in_default c =
    given-none (voiced c.args.plan.now.made.passed) c.requires.0 (count-none _ c.chain.ensures c.in_default.not-Values c.row-row.ensures.kind_is) refl c.requires.1 _ _

pub row-first-requires : goal.row-first-requires
row-first-requires c =
    let r = c.requires.0 in
    let k = c.row-row.ensures.kind_is in
    let x = first-value (voiced c.args.plan.now.made.passed) r (count-is c.in-Values.ensures k) (count-some r.fold_not r.chain_not c.in-Values.ensures k) in
    omega (arith, c.row-row.ensures.begin_is, x.in_sheet)

pub value-requires : goal.value-requires
value-requires c =
    let v = voiced c.args.plan.now.made.passed in
    let r = c.requires.0 in
    let k = c.row-row.ensures.kind_is in
    let x = first-value v r (count-is c.in-Values.ensures k) (count-some r.fold_not r.chain_not c.in-Values.ensures k) in
    let l = lends-value v r _ _ c.row-row.ensures.begin_is x refl in
    (l, c.requires.1, parts-of l.owned c.row-first.ensures c.requires.1)

pub returns-then-m-eq1 : goal.returns-then-m-eq1
returns-then-m-eq1 c =
    given-one (voiced c.args.plan.now.made.passed) c.requires.0 (count-is c.in-Values.ensures c.row-row.ensures.kind_is) c.if-m-eq1.true c.row-row.ensures.begin_is c.requires.1 refl _ _ _ _ c.value.ensures

pub row-second-requires : goal.row-second-requires
row-second-requires c =
    let S = c.args.plan.now.sheet.now in
    let r = c.requires.0 in
    let k = c.row-row.ensures.kind_is in
    let y = second-value (voiced c.args.plan.now.made.passed) r (count-is c.in-Values.ensures k) (count-some r.fold_not r.chain_not c.in-Values.ensures k) c.if-m-eq1.false in
    omega (arith, c.row-first.ensures.after_is ∙ ap (after S) c.row-row.ensures.begin_is, y.in_sheet)

pub value-requires-2 : goal.value-requires-2
value-requires-2 c =
    let v = voiced c.args.plan.now.made.passed in
    let S = c.args.plan.now.sheet.now in
    let r = c.requires.0 in
    let k = c.row-row.ensures.kind_is in
    let e = count-is c.in-Values.ensures k in
    let d = count-some r.fold_not r.chain_not c.in-Values.ensures k in
    let x = first-value v r e d in
    let q = c.row-row.ensures.begin_is in
    let l = lends-value v r _ _ (c.row-first.ensures.after_is ∙ ap (after S) q) (second-value v r e d c.if-m-eq1.false) r.same in
    let a = played-sound v _ x.in_sheet c.args.c _ _ _ _ _ _ _ c.requires.1 (played-at q c.value.ensures) in
    (l, a, parts-of l.owned c.row-second.ensures a)

pub returns : goal.returns
returns c =
    let r = c.requires.0 in
    let k = c.row-row.ensures.kind_is in
    given-two (voiced c.args.plan.now.made.passed) r (count-is c.in-Values.ensures k) (count-some r.fold_not r.chain_not c.in-Values.ensures k) c.if-m-eq1.false c.row-row.ensures.begin_is c.row-first.ensures.after_is c.requires.1 refl r.same _ _ _ _ _ _ c.value.ensures c.value-2.ensures
