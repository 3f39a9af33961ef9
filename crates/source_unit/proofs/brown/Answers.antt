use Rattle.std.proofs.Common.{refl, ap, ◌∙◌, [], ◌∷◌}
use Rattle.std.specs.Float.{nan}
use Rattle.tree.specs.Block.{tab}
use Rattle.tree.specs.Lists.{written, one-stored}
use Rattle.unpitched.specs.declared.Brown.{Brown}
use Rattle.noise_block.specs.Steps.{brown_step}
use Rattle.unit.specs.Sources.{brown_unit, brown_at}
use Rattle.unit.specs.Block.{ran-part}
use Rattle.source_unit.proofs.brown.Goals as goal

pub returns : goal.returns
unfolding brown_unit brown_step tab
returns c =
    let e = c.brown_block-r.ensures in
    λ m. ran-part (λ (u : Brown). (u.last ∷ [], u.rng.state ∷ [])) brown_step brown_unit m [] (brown_at (c.args.cells.now, c.args.regs.now)) (λ k l u. refl)
    (λ i. (written nan 1 c.args.cells.now c.requires.0 i, written 0 1 c.args.regs.now c.requires.1 i)) e.0
    (λ i. ((one-stored c.args.cells.now c.requires.0 ∙ ap (λ (u : Brown). u.last ∷ []) e.1) i, (one-stored c.args.regs.now c.requires.1 ∙ ap (λ (u : Brown). u.rng.state ∷ []) e.1) i))
