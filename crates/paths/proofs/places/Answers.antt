use Rattle.std.proofs.Common.{arith, length-set, get_or-set_same}
use Rattle.paths.specs.Paths.{entry-small, places-turn, places-done}
use Rattle.paths.proofs.places.Goals as goal

pub loop-i-init : goal.loop-i-init
loop-i-init c = (simp length-set (omega arith), λ e. get_or-set_same c.args.to.now 0 0 0 (omega (arith, c.args.links.now.listed.passed.some)), λ j d b l. absurd (omega arith))

pub overflow_add-to : goal.overflow_add-to
overflow_add-to c =
    let l = c.loop-i in
    let links = c.args.links.now in
    omega (arith, entry-small links.sheet.now links.count links.listed.passed l.i _ l.to c.loop-i-test.true (omega arith) (links.listed.first_at.at l.i c.loop-i-test.true) l.invariant.1 l.invariant.2)

pub loop-i-preserved : goal.loop-i-preserved
loop-i-preserved c =
    let l = c.loop-i in
    let links = c.args.links.now in
    let h = c.loop-i-test.true in
    (simp length-set l.invariant.0, λ e. absurd (omega arith), places-turn links.sheet.now links.count links.listed.passed l.i _ _ l.to h (omega arith) (links.listed.first_at.at l.i h) (links.listed.next_at.at l.i h) l.invariant.2)

pub returns : goal.returns
returns c =
    let l = c.loop-i in
    let links = c.args.links.now in
    places-done links.sheet.now links.count links.listed.passed l.i l.to (omega arith) (omega arith) l.invariant.2
