use Rattle.std.proofs.Common.{arith}
use Rattle.std.proofs.lemmas.List.{length-map}
use Rattle.sheet.specs.Numbers.{kind_number}
use Rattle.layout.specs.Tables.{role_code, front-done, owned-entry, entry-of}
use Rattle.layout.proofs.Tables.{acts-turn, begins-turn, afters-turn}
use Rattle.roles.proofs.roles.Goals as goal

pub role_at-role-requires : goal.role_at-role-requires
role_at-role-requires c =
    let l = c.loop-i in
    let links = c.args.links.now in
    let h = c.loop-i-test.true in
    (c.requires.staged.0, omega arith, l.invariant.1, h, owned-entry links.sheet.now links.count links.listed.passed l.i l.owned h l.invariant.0)

pub own-requires : goal.own-requires
own-requires c =
    let l = c.loop-i in
    let links = c.args.links.now in
    let h = c.loop-i-test.true in
    (h, owned-entry links.sheet.now links.count links.listed.passed l.i l.owned h l.invariant.0, omega arith, l.invariant.0)

pub loop-i-preserved : goal.loop-i-preserved
loop-i-preserved c =
    let l = c.loop-i in
    let links = c.args.links.now in
    let h = c.loop-i-test.true in
    let r = c.role_at-role in (
      c.own.ensures,
      acts-turn links.listed l.i h r.result r.ensures l.acts (omega arith) l.invariant.1,
      begins-turn links.listed l.i h r.result r.ensures c.args.froms.now l.begins c.requires.staged.1 (omega arith) l.invariant.2 _ _ (entry-of kind_number links.kinds.now links.listed.kind_at l.i h _) c.begin_at.ensures,
      afters-turn links.listed l.i h r.result r.ensures l.afters (omega arith) l.invariant.3 _ c.after_at.ensures,
    )

pub returns : goal.returns
returns c =
    let l = c.loop-i in
    (front-done _ _ _ l.i (omega (arith, length-map l.acts role_code)) (omega arith) l.invariant.1, front-done _ _ _ l.i (omega arith) (omega arith) l.invariant.2, front-done _ _ _ l.i (omega arith) (omega arith) l.invariant.3)
