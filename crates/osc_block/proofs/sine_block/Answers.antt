use Rattle.std.proofs.Common.{ap, ◌∙◌, map, rules}
use Rattle.dsp.specs.Math.{sine}
use Rattle.osc_block.specs.Steps.{sine_argument_step}
use Rattle.osc_block.proofs.Passes.{after-sine, given-sine}
use Rattle.osc_block.proofs.sine_block.Goals as goal

pub returns : goal.returns
unfolding sine_argument_step
returns c =
    let e = c.run_block-next.ensures (sine_argument_step c.args.w) (λ k s r h p. search rules) in
    (c.sin_block.ensures ∙ ap (map sine) e.0 ∙ given-sine _ _ _, e.1 ∙ after-sine _ _ _)
