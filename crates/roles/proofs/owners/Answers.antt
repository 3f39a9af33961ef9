use Rattle.std.proofs.Common.{arith}
use Rattle.layout.specs.Tables.{owned-entry, owned-done}
use Rattle.roles.proofs.owners.Goals as goal

pub own-requires : goal.own-requires
own-requires c =
    let l = c.loop-i in
    let links = c.args.links.now in
    (c.loop-i-test.true, owned-entry links.sheet.now links.count links.listed.passed l.i l.owned c.loop-i-test.true l.invariant, omega arith, l.invariant)

pub returns : goal.returns
returns c =
    let l = c.loop-i in
    let links = c.args.links.now in
    owned-done links.sheet.now links.count links.listed.passed l.i l.owned (omega arith) (omega arith) l.invariant
