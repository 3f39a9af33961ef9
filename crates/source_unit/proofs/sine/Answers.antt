use Rattle.std.proofs.Common.{refl, ap, ◌∙◌, [], ◌∷◌}
use Rattle.std.specs.Float.{nan}
use Rattle.tree.specs.Block.{tab}
use Rattle.block.specs.Iterate.{at}
use Rattle.tree.specs.Lists.{written, one-stored}
use Rattle.source.specs.Oscillators.{sine_of}
use Rattle.osc_block.specs.Steps.{sine_step}
use Rattle.unit.specs.Sources.{sine_unit}
use Rattle.source_unit.specs.Laws.{osc-ran}
use Rattle.source_unit.proofs.sine.Goals as goal

pub returns : goal.returns
unfolding sine_unit sine_step tab
returns c =
    let e = c.sine_block.ensures in
    λ m rs p. osc-ran (λ u. u ∷ []) (λ vs b u. sine_of (at vs 0) b c.args.w.srf u) _ m c.args.w [] (at c.args.cells.now 0) (λ k vs x u. refl) p
    (written nan 1 c.args.cells.now c.requires.1) (e.0, one-stored c.args.cells.now c.requires.1 ∙ ap (λ u. u ∷ []) e.1)
