use mathlib.Core.Path.{refl, ap, ◌∙◌}
use Prim.Native.Nat.{◌+◌, ◌≤◌}
use native.Mathlib.Omega.{arith}
use lib.ListN.{length}
use Rattle.layout.specs.Counts.{walk_turn, walk-done, walk-most}
use Rattle.start.specs.Cells.{mode-length, mode-back, mode-is, modal-turn, modal-end}
use Rattle.start.proofs.modal.Goals as goal

pub loop-j-init : goal.loop-j-init
loop-j-init c =
    (c.requires.0, refl, omega arith, omega (arith, walk-most c.args.plan.now.sheet.now c.args.plan.now.count c.args.plan.now.made.passed c.args.f c.requires.0), refl)

pub slice_bounds-mode-end : goal.slice_bounds-mode-end
slice_bounds-mode-end c =
    let l = c.loop-j in
    omega (arith, (walk_turn c.args.plan.now.sheet.now c.args.plan.now.count c.args.plan.now.made.passed c.args.plan.now.nexts.now c.args.plan.now.made.next_at l.j c.loop-j-test.true l.invariant.0).0)

pub mode-requires : goal.mode-requires
mode-requires c =
    let l = c.loop-j in
    let w = (walk_turn c.args.plan.now.sheet.now c.args.plan.now.count c.args.plan.now.made.passed c.args.plan.now.nexts.now c.args.plan.now.made.next_at l.j c.loop-j-test.true l.invariant.0).0 in
    mode-length l.own l.at (omega arith)

pub loop-j-smaller : goal.loop-j-smaller
loop-j-smaller c =
    let l = c.loop-j in
    omega (arith, (walk_turn c.args.plan.now.sheet.now c.args.plan.now.count c.args.plan.now.made.passed c.args.plan.now.nexts.now c.args.plan.now.made.next_at l.j c.loop-j-test.true l.invariant.0).0)

pub loop-j-preserved : goal.loop-j-preserved
loop-j-preserved c =
    let l = c.loop-j in
    let w = walk_turn c.args.plan.now.sheet.now c.args.plan.now.count c.args.plan.now.made.passed c.args.plan.now.nexts.now c.args.plan.now.made.next_at l.j c.loop-j-test.true l.invariant.0 in
    let m = c.mode.ensures ∙ mode-is c.args.plan.now.sheet.now l.j _ _ c.at-r.ensures c.rate-rate.ensures in
    let h : l.at + 5 ≤ length l.own = omega (arith, w.0) in
    let b = mode-back l.own c.mode.new.own l.at h (ap length c.mode.ensures) in (
      w.1,
      b ∙ l.invariant.1,
      omega (arith, w.0, b),
      omega (arith, b),
      modal-turn c.args.plan.now.sheet.now c.args.plan.now.count c.args.plan.now.made.passed c.args.plan.now.nexts.now c.args.plan.now.made.next_at l.j c.loop-j-test.true l.invariant.0 l.own _ _ l.at h m _ l.invariant.4,
    )

pub shape_of-own : goal.shape_of-own
shape_of-own c = c.loop-j.invariant.1

pub returns : goal.returns
returns c =
    let l = c.loop-j in
    let z = c.loop-j-test.false in
    modal-end c.args.plan.now.sheet.now c.args.plan.now.count c.args.plan.now.made.passed l.j z l.own l.at (omega (arith, walk-done c.args.plan.now.sheet.now c.args.plan.now.count c.args.plan.now.made.passed l.j z)) _ l.invariant.4
