use mathlib.Core.Path.{◌∙◌}
use native.Mathlib.Omega.{arith}
use lib.ListN.{length-take, length-drop}
use Rattle.walk.specs.Walk.{voiced, lent_of, own_is, own-sound}
use Rattle.walk.proofs.own.Goals as goal

pub play-requires : goal.play-requires
play-requires c =
    let l = c.requires.0 in
    let w = c.requires.2 in
    let R = w.rowed in
    (lent_of (voiced c.args.plan.now.made.passed) l.owned w c.requires.1, rw R.kind_is l.unit_is, own-sound _ _ _ c.requires.1 c.args.i _ _ _ _ l.owned.inside l.owned.built_is R.cells_is R.registers_is w.cn w.rn, l.first_long, l.second_long, l.pitched, l.early)

pub returns : goal.returns
returns c =
    let w = c.requires.2 in
    let R = w.rowed in
    let p = c.play in
    own_is _ c.args.i c.args.c _ _ _ _ _ _ _ _ _ _ _ c.requires.0.owned.built_is R.cells_is R.cells_end_is R.registers_is R.registers_end_is w.cin w.rin
    (p.auto.cells ∙ simp (length-take, length-drop) (omega (arith, w.cin)))
    (p.auto.regs ∙ simp (length-take, length-drop) (omega (arith, w.rin)))
    (rw R.kind_is at p.ensures)
