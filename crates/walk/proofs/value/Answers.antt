use mathlib.Core.Path.{◌∙◌}
use native.Mathlib.Omega.{arith}
use lib.ListN.{length-take, length-drop}
use Rattle.sheet.specs.Numbers.{kind_number}
use Rattle.walk.specs.Nodes.{value-kind}
use Rattle.walk.specs.Walk.{voiced, lent_of, own_is}
use Rattle.walk.proofs.value.Goals as goal

-- the kind of a value is one
pub returns-in_default : goal.returns-in_default
returns-in_default c = absurd (value-kind c.requires.2.rowed.kind_is c.requires.0.value_is c.in_default.not-Val)

pub play-requires : goal.play-requires
unfolding kind_number
play-requires c =
    let l = c.requires.0 in
    let w = c.requires.2 in
    let m = c.args.plan.now.made in
    (rw c.in-Val.is at (lent_of (voiced m.passed) l.owned w c.requires.1), m.passed, m.next_at, l.early)

pub returns : goal.returns
returns c =
    let w = c.requires.2 in
    let R = w.rowed in
    let p = c.play in
    own_is _ c.args.i c.args.c _ _ _ _ _ _ _ _ _ _ _ c.requires.0.owned.built_is R.cells_is R.cells_end_is R.registers_is R.registers_end_is w.cin w.rin
    (p.auto.cells ∙ simp (length-take, length-drop) (omega (arith, w.cin)))
    (p.auto.regs ∙ simp (length-take, length-drop) (omega (arith, w.rin)))
    p.ensures
