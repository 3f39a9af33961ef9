use mathlib.Core.Path.{refl}
use native.Mathlib.Omega.{arith}
use Rattle.layout.specs.Good.{good}
use Rattle.layout.proofs.Laws.{playable}
use Rattle.walk.specs.Nodes.{chain-nodes, is-fold, fold-nodes, fold-scratch, leaf-left, fold-left, chain-left}
use Rattle.walk.specs.Walk.{voiced, ready-same, walk-start, chain-again, chain-end, mix-again, mix-end, sourced-chain, sourced-leaf, sourced-mix, fold_is, chain_is, left_less}
use Rattle.walk.proofs.+chain_mix_source.Goals as goal

pub chain-loop-j-init : goal.chain-loop-j-init
chain-loop-j-init t c =
    walk-start (voiced c.args.plan.now.made.passed) c.requires.0 c.requires.1 c.requires.2 c.requires.3 (chain-nodes _ c.requires.4) c.row-row.ensures.begin_is

pub chain-row-stage-requires : goal.chain-row-stage-requires
chain-row-stage-requires t c =
    c.loop-j.invariant.inside

pub chain-source-requires : goal.chain-source-requires
chain-source-requires t c =
    let L = c.loop-j in
    let l = L.invariant in
    let t = c.loop-j-test.true in
    let q = c.row-stage.ensures in
    (omega (arith, c.decreases, l.above t, l.inside), (l.ready, l.room, l.sound, l.inside, (l.member t).is))

pub chain-loop-j-smaller-in-Fold : goal.chain-loop-j-smaller-in-Fold
chain-loop-j-smaller-in-Fold t c =
    let L = c.loop-j in
    let l = L.invariant in
    let t = c.loop-j-test.true in
    let q = c.row-stage.ensures in
    rw q.after_is (left_less l.voiced.passed L.j t l.inside)

pub chain-loop-j-preserved-in-Fold : goal.chain-loop-j-preserved-in-Fold
chain-loop-j-preserved-in-Fold t c =
    let L = c.loop-j in
    let l = L.invariant in
    let t = c.loop-j-test.true in
    let q = c.row-stage.ensures in
    let r = c.source in
    chain-again l t r.ensures r.auto.out r.auto.cells r.auto.regs r.auto.scr r.auto.v r.auto.w q.after_is

pub chain-leaf-requires : goal.chain-leaf-requires
chain-leaf-requires t c =
    let L = c.loop-j in
    let l = L.invariant in
    let t = c.loop-j-test.true in
    let q = c.row-stage.ensures in
    let f = leaf-left q.kind_is c.in_default.not-Fold c.in_default.not-Chain in
    (l.ready, l.sound, l.inside, (l.member t).is, f.0, f.1)

pub chain-loop-j-smaller : goal.chain-loop-j-smaller
chain-loop-j-smaller t c =
    let L = c.loop-j in
    let l = L.invariant in
    let t = c.loop-j-test.true in
    let q = c.row-stage.ensures in
    rw q.after_is (left_less l.voiced.passed L.j t l.inside)

pub chain-loop-j-preserved : goal.chain-loop-j-preserved
chain-loop-j-preserved t c =
    let L = c.loop-j in
    let l = L.invariant in
    let t = c.loop-j-test.true in
    let q = c.row-stage.ensures in
    let r = c.leaf in
    chain-again l t (sourced-leaf l.voiced L.j c.args.c _ _ _ _ _ _ _ r.ensures) r.auto.out r.auto.cells r.auto.regs refl r.auto.v r.auto.w q.after_is

pub chain-returns : goal.chain-returns
chain-returns t c =
    chain-end c.loop-j.invariant c.loop-j-test.false

pub mix-loop-j-init : goal.mix-loop-j-init
mix-loop-j-init t c =
    let R = c.row-row.ensures in
    (R.scratch_is, walk-start (voiced c.args.plan.now.made.passed) c.requires.0 c.requires.1 c.requires.2 c.requires.3 (fold-nodes _ (is-fold c.args.fold c.requires.4)) R.begin_is)

pub mix-row-input-requires : goal.mix-row-input-requires
mix-row-input-requires t c =
    c.loop-j.invariant.1.inside

pub mix-source-requires : goal.mix-source-requires
mix-source-requires t c =
    let L = c.loop-j in
    let l = L.invariant.1 in
    let t = c.loop-j-test.true in
    let q = c.row-input.ensures in
    (omega (arith, c.decreases, l.above t, l.inside), (ready-same l.ready c.fill_block.auto.out refl refl, l.room, l.sound, l.inside, (l.member t).is))

pub mix-scratch_join-requires : goal.mix-scratch_join-requires
mix-scratch_join-requires t c =
    let L = c.loop-j in
    let l = L.invariant.1 in
    let t = c.loop-j-test.true in
    let q = c.row-input.ensures in
    omega (arith, (playable _ l.voiced.passed.passed).scratch_end c.args.i l.holder, L.invariant.0, l.room, l.ready.short, c.requires.5, c.source.auto.scr, c.source.auto.out, c.fill_block.auto.out)

pub mix-loop-j-smaller-in-Fold : goal.mix-loop-j-smaller-in-Fold
mix-loop-j-smaller-in-Fold t c =
    let L = c.loop-j in
    let l = L.invariant.1 in
    let t = c.loop-j-test.true in
    let q = c.row-input.ensures in
    rw q.after_is (left_less l.voiced.passed L.j t l.inside)

pub mix-loop-j-preserved-in-Fold : goal.mix-loop-j-preserved-in-Fold
mix-loop-j-preserved-in-Fold t c =
    let L = c.loop-j in
    let l = L.invariant.1 in
    let t = c.loop-j-test.true in
    let q = c.row-input.ensures in
    let r = c.source in
    let w = c.scratch_join in
    (L.invariant.0, mix-again c.requires.5 c.requires.4 L.invariant.0 l t c.fill_block.ensures r.ensures w.ensures r.auto.out r.auto.cells r.auto.regs r.auto.scr w.auto.scr r.auto.v r.auto.w q.after_is)

pub mix-leaf-requires : goal.mix-leaf-requires
mix-leaf-requires t c =
    let L = c.loop-j in
    let l = L.invariant.1 in
    let t = c.loop-j-test.true in
    let q = c.row-input.ensures in
    let f = leaf-left q.kind_is c.in_default.not-Fold c.in_default.not-Chain in
    (ready-same l.ready c.fill_block.auto.out refl refl, l.sound, l.inside, (l.member t).is, f.0, f.1)

pub mix-scratch_join-requires-in_default : goal.mix-scratch_join-requires-in_default
mix-scratch_join-requires-in_default t c =
    let L = c.loop-j in
    let l = L.invariant.1 in
    let t = c.loop-j-test.true in
    let q = c.row-input.ensures in
    omega (arith, (playable _ l.voiced.passed.passed).scratch_end c.args.i l.holder, L.invariant.0, l.room, l.ready.short, c.requires.5, c.leaf.auto.out, c.fill_block.auto.out)

pub mix-loop-j-smaller : goal.mix-loop-j-smaller
mix-loop-j-smaller t c =
    let L = c.loop-j in
    let l = L.invariant.1 in
    let t = c.loop-j-test.true in
    let q = c.row-input.ensures in
    rw q.after_is (left_less l.voiced.passed L.j t l.inside)

pub mix-loop-j-preserved : goal.mix-loop-j-preserved
mix-loop-j-preserved t c =
    let L = c.loop-j in
    let l = L.invariant.1 in
    let t = c.loop-j-test.true in
    let q = c.row-input.ensures in
    let r = c.leaf in
    let w = c.scratch_join-in_default in
    (L.invariant.0, mix-again c.requires.5 c.requires.4 L.invariant.0 l t c.fill_block.ensures (sourced-leaf l.voiced L.j c.args.c _ _ _ _ _ _ _ r.ensures) w.ensures r.auto.out r.auto.cells r.auto.regs refl w.auto.scr r.auto.v r.auto.w q.after_is)

pub mix-returns : goal.mix-returns
mix-returns t c =
    mix-end c.loop-j.invariant.1 c.loop-j-test.false

pub source-scratch_fill-requires : goal.source-scratch_fill-requires
source-scratch_fill-requires t c =
    let S = c.args.plan.now.sheet.now in
    let vo = voiced c.args.plan.now.made.passed in
    let i = c.args.i in
    let R = c.row-row.ensures in
    let f = fold-left R.kind_is c.in-Fold.is in
    let need = fold-scratch S (good S vo.passed.passed) i c.requires.3 c.requires.4 f.1 in
    omega (arith, (playable S vo.passed.passed).scratch_end i c.requires.3, R.scratch_is, c.requires.1, c.requires.0.short, need)

pub source-mix-requires : goal.source-mix-requires
source-mix-requires t c =
    let S = c.args.plan.now.sheet.now in
    let vo = voiced c.args.plan.now.made.passed in
    let i = c.args.i in
    let R = c.row-row.ensures in
    let f = fold-left R.kind_is c.in-Fold.is in
    let need = fold-scratch S (good S vo.passed.passed) i c.requires.3 c.requires.4 f.1 in
    (omega (arith, c.decreases, c.requires.3), (c.requires.0, omega (arith, c.requires.1, c.scratch_fill.auto.scr), c.requires.2, c.requires.3, f.0, need))

pub source-scratch_take-requires : goal.source-scratch_take-requires
source-scratch_take-requires t c =
    let S = c.args.plan.now.sheet.now in
    let vo = voiced c.args.plan.now.made.passed in
    let i = c.args.i in
    let R = c.row-row.ensures in
    let f = fold-left R.kind_is c.in-Fold.is in
    let need = fold-scratch S (good S vo.passed.passed) i c.requires.3 c.requires.4 f.1 in
    omega (arith, (playable S vo.passed.passed).scratch_end i c.requires.3, R.scratch_is, c.requires.1, c.requires.0.short, need, c.scratch_fill.auto.scr, c.mix.auto.scr, c.mix.auto.out)

pub source-returns-in-Fold : goal.source-returns-in-Fold
source-returns-in-Fold t c =
    let S = c.args.plan.now.sheet.now in
    let vo = voiced c.args.plan.now.made.passed in
    let i = c.args.i in
    let R = c.row-row.ensures in
    let f = fold-left R.kind_is c.in-Fold.is in
    let need = fold-scratch S (good S vo.passed.passed) i c.requires.3 c.requires.4 f.1 in
    sourced-mix vo i c.args.c _ _ _ _ _ _ _ _ _ c.requires.3 need c.requires.0.short c.requires.1 (fold_is S i f.1) (rw (R.scratch_is, c.empty.ensures, f.0) at c.scratch_fill.ensures) c.mix.ensures (rw (R.scratch_is, c.mix.auto.out) at c.scratch_take.ensures)

pub source-chain-requires : goal.source-chain-requires
source-chain-requires t c =
    let S = c.args.plan.now.sheet.now in
    let vo = voiced c.args.plan.now.made.passed in
    let i = c.args.i in
    let R = c.row-row.ensures in
    (omega (arith, c.decreases, c.requires.3), (c.requires.0, c.requires.1, c.requires.2, c.requires.3, chain-left R.kind_is c.in-Chain.is))

pub source-returns-in-Chain : goal.source-returns-in-Chain
source-returns-in-Chain t c =
    let S = c.args.plan.now.sheet.now in
    let vo = voiced c.args.plan.now.made.passed in
    let i = c.args.i in
    let R = c.row-row.ensures in
    sourced-chain vo i c.args.c _ _ _ _ _ _ _ _ (chain_is S i (chain-left R.kind_is c.in-Chain.is)) c.chain.ensures

pub source-leaf-requires : goal.source-leaf-requires
source-leaf-requires t c =
    let S = c.args.plan.now.sheet.now in
    let vo = voiced c.args.plan.now.made.passed in
    let i = c.args.i in
    let R = c.row-row.ensures in
    let f = leaf-left R.kind_is c.in_default.not-Fold c.in_default.not-Chain in
    (c.requires.0, c.requires.2, c.requires.3, c.requires.4, f.0, f.1)

pub source-returns-in_default : goal.source-returns-in_default
source-returns-in_default t c =
    sourced-leaf (voiced c.args.plan.now.made.passed) c.args.i c.args.c _ _ _ _ _ _ _ c.leaf.ensures
