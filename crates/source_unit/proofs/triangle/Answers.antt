use Rattle.std.proofs.Common.{refl, ap, ◌∙◌, [], ◌∷◌}
use Rattle.std.specs.Float.{nan}
use Rattle.tree.specs.Block.{tab}
use Rattle.block.specs.Iterate.{at}
use Rattle.tree.specs.Lists.{written}
use Rattle.source.specs.declared.Triangle.{Triangle}
use Rattle.source.specs.Oscillators.{triangle_of}
use Rattle.osc_block.specs.Steps.{triangle_step}
use Rattle.unit.specs.Sources.{triangle_unit, triangle_at}
use Rattle.source_unit.specs.Laws.{osc-ran}
use Rattle.source_unit.proofs.triangle.Goals as goal

pub returns : goal.returns
unfolding triangle_unit triangle_step tab
returns c =
    let e = c.triangle_block-r.ensures in
    λ m rs p. osc-ran (λ (u : Triangle). u.phase ∷ u.tri ∷ []) (λ vs b u. triangle_of (at vs 0) b c.args.w.srf u) _ m c.args.w [] (triangle_at c.args.cells.now) (λ k vs x u. refl) p
    (written nan 2 c.args.cells.now c.requires.1) (e.0, c.copy_from_slice.ensures.after ∙ ap (λ (u : Triangle). u.phase ∷ u.tri ∷ []) e.1)
