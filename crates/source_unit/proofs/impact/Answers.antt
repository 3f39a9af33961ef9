use Rattle.std.proofs.Common.{sym, ◌∙◌, []}
use Rattle.unpitched.specs.Others.{impact_by, impact_of}
use Rattle.source_block.specs.Steps.{impact_step}
use Rattle.unit.specs.Block.{moment-position, ran-stateless}
use Rattle.source_unit.proofs.impact.Goals as goal

pub returns : goal.returns
unfolding impact_step
returns c =
    let e = c.new-lobe.ensures ∙ (λ i. impact_by (c.number.ensures i) (c.number-2.ensures i) c.args.srf) in
    λ cs rs. ran-stateless _ (impact_step _ _ c.args.c.position) c.args.c [] (λ k l. (λ i. impact_of (sym e i).w (sym e i).norm (moment-position k c.args.c i))) c.impact_block.ensures
