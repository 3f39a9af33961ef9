use Rattle.std.proofs.Common.{refl, ap, ◌∙◌, [], ◌∷◌}
use Rattle.std.specs.Float.{nan}
use Rattle.tree.specs.Block.{tab}
use Rattle.tree.specs.Lists.{written, one-stored}
use Rattle.unpitched.specs.declared.Dust.{Dust}
use Rattle.unpitched.specs.Others.{dust_chance, dust_decay}
use Rattle.noise_block.specs.Steps.{dust_step}
use Rattle.unit.specs.Sources.{dust_unit, dust_at}
use Rattle.unit.specs.Block.{ran-part}
use Rattle.source_unit.proofs.dust.Goals as goal

pub returns : goal.returns
unfolding dust_unit dust_step tab
returns c =
    let e = c.dust_block-d.ensures in
    let chance = c.dust_chance-chance.result in
    let decay = c.dust_decay-decay.result in
    let ep = c.dust_chance-chance.ensures ∙ ap (λ x. dust_chance x c.args.srf) c.number.ensures in
    let ed = c.dust_decay-decay.ensures ∙ ap (λ x. dust_decay x c.args.srf) c.number-2.ensures in
    λ m. rw (← ep, ← ed) (ran-part (λ (u : Dust). (u.y ∷ [], u.rng.state ∷ [])) (dust_step chance decay) (dust_unit chance decay) m [] (dust_at (c.args.cells.now, c.args.regs.now)) (λ k l u. refl)
    (λ i. (written nan 1 c.args.cells.now c.requires.0 i, written 0 1 c.args.regs.now c.requires.1 i)) e.0
    (λ i. ((one-stored c.args.cells.now c.requires.0 ∙ ap (λ (u : Dust). u.y ∷ []) e.1) i, (one-stored c.args.regs.now c.requires.1 ∙ ap (λ (u : Dust). u.rng.state ∷ []) e.1) i)))
