use Rattle.std.proofs.Common.{refl, ap, ◌∙◌, [], min, max}
use Rattle.block.specs.Iterate.{at}
use Rattle.dsl.specs.Options.{super_wave_of}
use Rattle.super_block.specs.Super.{super_of, super_step}
use Rattle.unit.specs.Sources.{super_unit}
use Rattle.source_unit.specs.Laws.{osc-ran}
use Rattle.source_unit.proofs.super_voices.Goals as goal

pub returns : goal.returns
unfolding super_unit super_step
returns c =
    let e = c.super_block.ensures in
    let n = c.voices-n.ensures.0 ∙ ap (λ n. max 1 (min n 16)) c.bits.ensures in
    let w = c.from-wave.ensures ∙ ap super_wave_of c.option.ensures in
    λ m rs p. rw (← n, ← w) (osc-ran (λ cs. cs) (λ vs b cs. super_of c.from-wave.result c.voices-n.result (at vs 0) b c.args.w.srf cs) _ m c.args.w [] c.args.cells.now (λ k vs x u. refl) p refl (e.0, e.1))
