use Rattle.std.proofs.Common.{ap, ◌∙◌, rules}
use Rattle.std.specs.Prelude.{map}
use Rattle.dsp.specs.Math.{sine}
use Rattle.value_block.specs.Steps.{lfo_step, lfo_argument_step, lfo_level_step}
use Rattle.value_block.proofs.Passes.{given-lfo}
use Rattle.value_block.proofs.lfo_block.Goals as goal

pub returns-in-Sine : goal.returns-in-Sine
unfolding lfo_argument_step lfo_level_step
returns-in-Sine c =
    let ys = c.sin_block.ensures ∙ ap (map sine) (c.run_block.ensures (lfo_argument_step _ _ _) (λ k s r h p. search rules)).0 in
    (c.run_block-in-Sine.ensures (lfo_level_step _ _ _) (λ k s r h p. search rules)).0 ∙ given-lfo _ c.in-Sine.is _ _ _ _ ys

pub returns-in_default : goal.returns-in_default
unfolding lfo_step
returns-in_default c = (c.run_block-in_default.ensures (lfo_step _ _ _) (λ k s r h p. search rules)).0
