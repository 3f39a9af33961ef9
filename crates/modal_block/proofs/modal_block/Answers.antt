use Rattle.std.proofs.Common.{◌≡◌, ◌+◌, ◌*◌, ◌/◌, length, arith}
use Rattle.block.specs.Loop.{going_start, going_end}
use Rattle.modal_block.proofs.modal_block.Goals as goal

pub loop-i-init : goal.loop-i-init
loop-i-init c = going_start _ _ _ _

pub loop-i-preserved : goal.loop-i-preserved
loop-i-preserved c =
    let l = c.loop-i in
    let e : 4 * l.i + 4 ≡ 4 * (l.i + 1) = omega arith in
    rw e at (c.modal_at.ensures.0 _ _ l.invariant)

pub loop-k-init : goal.loop-k-init
loop-k-init c =
    let l = c.loop-i in
    let e : l.i ≡ length c.args.out.now / 4 = omega arith in
    rw e at l.invariant

pub loop-k-preserved : goal.loop-k-preserved
loop-k-preserved c = c.modal_at-in-loop-k.ensures.0 _ _ c.loop-k.invariant

pub returns : goal.returns
returns c = let e = going_end _ _ _ _ c.loop-k.invariant (omega arith) in (e.0, e.1, omega arith)
