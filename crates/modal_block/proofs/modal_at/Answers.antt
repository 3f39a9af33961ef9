use Rattle.std.proofs.Common.{◌≡◌, arith}
use Rattle.modal_block.specs.Groups.{part-is, group-start, group-end, group-turn}
use Rattle.modal_block.proofs.modal_at.Goals as goal

pub loop-j-init : goal.loop-j-init
loop-j-init g c = λ xs cs h. group-start xs cs c.args.mix c.args.n h

pub loop-j-preserved : goal.loop-j-preserved
loop-j-preserved g c =
    let a = c.args in
    let N = g.row.N in
    λ xs cs h. group-turn xs cs a.mix a.n a.k N c.copy_from_slice.new.self h (part-is a.out.now a.k N c.copy_from_slice.ensures.after) c.loop-j.j c.loop-j-test.true
    (omega (arith, c.requires.0)) c.modes-wet.ensures.0 (c.loop-j.invariant xs cs h)

pub returns : goal.returns
returns g c =
    let a = c.args in
    let N = g.row.N in
    let e : c.loop-j.j ≡ N = omega arith in (
      λ xs cs h. group-end xs cs a.mix a.n a.k N c.copy_from_slice.new.self h (part-is a.out.now a.k N c.copy_from_slice.ensures.after) c.modes-wet.ensures.1
          (rw e at (c.loop-j.invariant xs cs h)),
      c.modes-wet.ensures.2,
    )
