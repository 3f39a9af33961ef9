use native.Mathlib.Omega.{arith}
use Rattle.layout.specs.Counts.{walk_turn, walk-done, walk-most}
use Rattle.layout.proofs.chain_length.Goals as goal

pub loop-j-init : goal.loop-j-init
loop-j-init c = ((c).requires.2, omega arith, walk-most (c).args.sheet.now (c).args.count (c).requires.0 (c).args.f (c).requires.2)

pub overflow_add-n : goal.overflow_add-n
overflow_add-n c =
    let l = c.loop-j in
    omega (arith, (walk_turn c.args.sheet.now c.args.count c.requires.0 c.args.nexts.now c.requires.1 l.j c.loop-j-test.true l.invariant.0).0)

pub loop-j-smaller : goal.loop-j-smaller
loop-j-smaller c =
    let l = c.loop-j in
    omega (arith, (walk_turn c.args.sheet.now c.args.count c.requires.0 c.args.nexts.now c.requires.1 l.j c.loop-j-test.true l.invariant.0).0)

pub loop-j-preserved : goal.loop-j-preserved
loop-j-preserved c =
    let l = c.loop-j in
    ((walk_turn c.args.sheet.now c.args.count c.requires.0 c.args.nexts.now c.requires.1 l.j c.loop-j-test.true l.invariant.0).1, omega (arith, (walk_turn c.args.sheet.now c.args.count c.requires.0 c.args.nexts.now c.requires.1 l.j c.loop-j-test.true l.invariant.0).0), l.invariant.2)

pub returns : goal.returns
returns c =
    let e = walk-done c.args.sheet.now c.args.count c.requires.0 c.loop-j.j c.loop-j-test.false in (omega arith, omega arith)
