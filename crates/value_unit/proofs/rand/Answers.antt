use mathlib.Core.Path.{refl, ap, ◌∙◌}
use mathlib.Core.List.{[], ◌∷◌}
use lib.Ieee.{nan}
use Rattle.tree.specs.Block.{tab}
use Rattle.rand_value.specs.declared.Rand.{Rand as Walk}
use Rattle.value_block.specs.Steps.{rand_step}
use Rattle.unit.specs.Values.{walk_of, walk_own, rand_unit}
use Rattle.unit.specs.Block.{ran-part}
use Rattle.tree.specs.Lists.{written, one-stored}
use Rattle.value_unit.proofs.rand.Goals as goal

pub returns : goal.returns
unfolding rand_unit rand_step tab
returns c =
    let e = c.rand_block-r.ensures in
    λ m. rw (← c.rand_increment.ensures) (ran-part walk_own (rand_step c.rand_increment.result c.args.v.from c.args.v.to) (rand_unit c.rand_increment.result c.args.v.from c.args.v.to) m [] (walk_of (c.args.cells.now, c.args.regs.now)) (λ k l u. refl)
    (λ i. (written nan 3 c.args.cells.now c.requires.0 i, written 0 1 c.args.regs.now c.requires.1 i)) e.0
    (λ i. ((c.copy_from_slice.ensures.after ∙ ap (λ (u : Walk). u.prev ∷ u.next ∷ u.phase ∷ []) e.1) i, (one-stored c.args.regs.now c.requires.1 ∙ ap (λ (u : Walk). u.rng.state ∷ []) e.1) i)))
