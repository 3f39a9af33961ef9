use Rattle.std.proofs.Common.{arith, length-set}
use borrow.Author.Count.{below_none}
use Rattle.layout.specs.Tables.{front-done, front-more, owner-entry}
use Rattle.paths.specs.Paths.{root_is, paths-turn}
use Rattle.paths.proofs.down.Goals as goal

pub loop-j-init : goal.loop-j-init
loop-j-init c =
    let links = c.args.links.now in
    (simp length-set (omega arith), front-more _ c.args.to.now 0 _ (omega (arith, links.listed.passed.some)) (below_none _) (root_is links.sheet.now links.count links.listed.passed _ c.path.ensures))

pub offset_bounds-to-owned : goal.offset_bounds-to-owned
offset_bounds-to-owned c =
    let links = c.args.links.now in
    omega (arith, owner-entry links.sheet.now links.count links.listed.passed c.args.owned.now c.requires.0 c.loop-j.j (omega arith) c.loop-j-test.true, links.listed.passed.small)

pub bounds-to-owned : goal.bounds-to-owned
bounds-to-owned c =
    let links = c.args.links.now in
    omega (arith, owner-entry links.sheet.now links.count links.listed.passed c.args.owned.now c.requires.0 c.loop-j.j (omega arith) c.loop-j-test.true)

pub loop-j-preserved : goal.loop-j-preserved
loop-j-preserved c =
    let l = c.loop-j in
    let links = c.args.links.now in
    (simp length-set l.invariant.0, paths-turn links.sheet.now links.count links.listed.passed c.args.owned.now c.args.placed.now l.to c.requires.0 c.requires.1 l.j (omega arith) c.loop-j-test.true l.invariant.0 l.invariant.1 c.node_path.result c.node_path.ensures)

pub returns : goal.returns
returns c =
    let l = c.loop-j in
    front-done _ _ _ l.j (omega arith) (omega (arith, c.args.links.now.listed.passed.some)) l.invariant.1
