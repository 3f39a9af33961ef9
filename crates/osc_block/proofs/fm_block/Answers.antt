use Rattle.std.proofs.Common.{ap, ◌∙◌, map, rules}
use Rattle.dsp.specs.Math.{sine}
use Rattle.osc_block.specs.Steps.{modulator_step, carrier_step}
use Rattle.osc_block.proofs.Passes.{after-fm, given-fm}
use Rattle.osc_block.proofs.fm_block.Goals as goal

pub returns : goal.returns
unfolding modulator_step carrier_step
returns c =
    let m = c.run_block-mph.ensures (modulator_step c.args.w c.args.ratio) (λ k s r h p. search rules) in
    let x = c.run_block-cph.ensures (carrier_step _ c.args.w c.args.index.now) (λ k s r h p. search rules) in
    let ms = c.sin_block.ensures ∙ ap (map sine) m.0 in (
      c.sin_block-2.ensures ∙ ap (map sine) x.0 ∙ given-fm _ _ _ _ _ _ ms,
      (λ i. record { cph = x.1 i; mph = m.1 i }) ∙ after-fm _ _ _ _ _ _ ms,
    )
