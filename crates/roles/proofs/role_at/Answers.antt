-- `roles::role_at` meets its contract. By cases; an owner stands below its record. Assumes nothing.
use Rattle.std.specs.Prelude.{◌≢◌, ◌<◌}
use Rattle.std.proofs.Common.{◌∙◌, arith}
use Rattle.sheet.specs.Numbers.{kind_number}
use Rattle.layout.specs.Tables.{owner-in, long-of, entry-of, flag, flag-same}
use Rattle.layout.proofs.Tables.{root_is, role-turn}
use Rattle.roles.proofs.role_at.Goals as goal
use Rattle.roles.proofs.role_at.Goals.{Start}

low : (s : Start) → s.args.i ≢ 0 → s.args.o < s.args.links.now.count
low s d = let links = s.args.links.now in omega (arith, s.requires.4 d, s.requires.3, owner-in links.sheet.now links.count links.listed.passed s.args.i d s.requires.3)

pub returns-then-i-eq0 : goal.returns-then-i-eq0
returns-then-i-eq0 c =
    let links = c.args.links.now in
    c.root_role.ensures ∙ root_is links.listed c.args.i _ c.if-i-eq0.true (entry-of kind_number links.kinds.now links.listed.kind_at c.args.i c.requires.3 _)

pub bounds-acts-o : goal.bounds-acts-o
bounds-acts-o c = omega (arith, low (goal.at.bounds-acts-o c).Start c.if-i-eq0.false)

pub offset_bounds-kinds-o : goal.offset_bounds-kinds-o
offset_bounds-kinds-o c = omega (arith, low (goal.at.offset_bounds-kinds-o c).Start c.if-i-eq0.false, c.args.links.now.listed.passed.small)

pub bounds-kinds-o : goal.bounds-kinds-o
bounds-kinds-o c =
    let links = c.args.links.now in
    omega (arith, low (goal.at.bounds-kinds-o c).Start c.if-i-eq0.false, long-of kind_number links.kinds.now links.listed.kind_at)

pub returns : goal.returns
returns c =
    let links = c.args.links.now in
    let d = c.if-i-eq0.false in
    let h = c.requires.3 in
    c.role_in.ensures ∙ role-turn links.listed c.args.i c.args.o c.args.acts.now _ _ _ d h (c.requires.4 d) c.requires.2
    (entry-of kind_number links.kinds.now links.listed.kind_at c.args.o (low (goal.at.returns c).Start d) _)
    (entry-of kind_number links.kinds.now links.listed.kind_at c.args.i h _)
    (flag-same _ _ (entry-of flag c.args.lasts.now c.requires.0 c.args.i h _))
