use Rattle.std.proofs.Common.{refl, ap, ◌∙◌, [], ◌∷◌}
use Rattle.std.specs.Float.{nan}
use Rattle.tree.specs.Block.{tab}
use Rattle.block.specs.Iterate.{at}
use Rattle.tree.specs.Lists.{written, one-stored}
use Rattle.source.specs.Oscillators.{saw_of}
use Rattle.osc_block.specs.Steps.{saw_step}
use Rattle.unit.specs.Sources.{saw_unit}
use Rattle.source_unit.specs.Laws.{osc-ran}
use Rattle.source_unit.proofs.saw.Goals as goal

pub returns : goal.returns
unfolding saw_unit saw_step tab
returns c =
    let e = c.saw_block.ensures in
    λ m rs p. osc-ran (λ u. u ∷ []) (λ vs b u. saw_of (at vs 0) b c.args.w.srf u) _ m c.args.w [] (at c.args.cells.now 0) (λ k vs x u. refl) p
    (written nan 1 c.args.cells.now c.requires.1) (e.0, one-stored c.args.cells.now c.requires.1 ∙ ap (λ u. u ∷ []) e.1)
