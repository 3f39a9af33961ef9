use Rattle.std.proofs.Common.{refl, ap, ◌∙◌, [], ◌∷◌}
use Rattle.std.specs.Float.{nan}
use Rattle.tree.specs.Block.{tab}
use Rattle.block.specs.Iterate.{at}
use Rattle.tree.specs.Lists.{written, one-stored}
use Rattle.source.specs.Oscillators.{square_of}
use Rattle.osc_block.specs.Steps.{square_step}
use Rattle.unit.specs.Sources.{square_unit}
use Rattle.source_unit.specs.Laws.{osc-ran}
use Rattle.source_unit.proofs.square.Goals as goal

pub returns : goal.returns
unfolding square_unit square_step tab
returns c =
    let e = c.square_block.ensures in
    λ m rs p. osc-ran (λ u. u ∷ []) (λ vs b u. square_of (at vs 0) (at vs 1) b c.args.w.srf u) _ m c.args.w (c.args.duty.now ∷ []) (at c.args.cells.now 0) (λ k vs x u. refl) p
    (written nan 1 c.args.cells.now c.requires.2) (e.0, one-stored c.args.cells.now c.requires.2 ∙ ap (λ u. u ∷ []) e.1)
