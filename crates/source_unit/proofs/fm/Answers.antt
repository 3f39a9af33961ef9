use Rattle.std.proofs.Common.{refl, ap, ◌∙◌, [], ◌∷◌}
use Rattle.std.specs.Float.{nan}
use Rattle.tree.specs.Block.{tab}
use Rattle.block.specs.Iterate.{at}
use Rattle.tree.specs.Lists.{written}
use Rattle.source.specs.declared.Fm.{Fm}
use Rattle.source.specs.Oscillators.{fm_of}
use Rattle.osc_block.specs.Steps.{fm_step}
use Rattle.unit.specs.Sources.{fm_unit, fm_at}
use Rattle.source_unit.specs.Laws.{osc-ran}
use Rattle.source_unit.proofs.fm.Goals as goal

pub returns : goal.returns
unfolding fm_unit fm_step tab
returns c =
    let e = c.fm_block-r.ensures in
    λ m rs p. osc-ran (λ (u : Fm). u.cph ∷ u.mph ∷ []) (λ vs b u. fm_of (at vs 0) (at vs 1) c.args.ratio b c.args.w.srf u) _ m c.args.w (c.args.index.now ∷ []) (fm_at c.args.cells.now) (λ k vs x u. refl) p
    (written nan 2 c.args.cells.now c.requires.2) (e.0, c.copy_from_slice.ensures.after ∙ ap (λ (u : Fm). u.cph ∷ u.mph ∷ []) e.1)
