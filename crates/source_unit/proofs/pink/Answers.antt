use Rattle.std.proofs.Common.{refl, sym, ap, ◌∙◌, [], ◌∷◌}
use Rattle.tree.specs.Block.{tab}
use Rattle.tree.specs.Lists.{written, one-stored}
use Rattle.unpitched.specs.declared.Pink.{Pink}
use Rattle.noise_block.specs.Steps.{pink_step}
use Rattle.unit.specs.Sources.{pink_unit, rng_at}
use Rattle.unit.specs.Block.{ran-part}
use Rattle.source_unit.proofs.pink.Goals as goal

pub returns : goal.returns
unfolding pink_unit pink_step tab
returns c =
    let e = c.pink_block-r.ensures in
    λ m. ran-part (λ (u : Pink). (u.poles, u.rng.state ∷ [])) pink_step pink_unit m [] (record { rng = rng_at c.args.regs.now; poles = c.copy_from_slice.new.self }) (λ k l u. refl)
    (λ i. (sym c.copy_from_slice.ensures.after i, written 0 1 c.args.regs.now c.requires.1 i)) e.0
    (λ i. ((c.copy_from_slice-2.ensures.after ∙ ap (λ (u : Pink). u.poles) e.1) i, (one-stored c.args.regs.now c.requires.1 ∙ ap (λ (u : Pink). u.rng.state ∷ []) e.1) i))
