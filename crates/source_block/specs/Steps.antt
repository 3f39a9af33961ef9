-- Impact and Env for one sample as steps of a block: the sample is at the position t + k.
use Rattle.std.specs.Prelude.{List, ℕ, ◌+◌, Float}
use Rattle.block.specs.Iterate.{at}
use Rattle.dsl.specs.declared.Adsr.{Adsr}
use Rattle.envelope.specs.Envelope.{adsr_of}
use Rattle.value.specs.Modulators.{seconds_of}
use Rattle.unpitched.specs.Others.{impact_of, env_of}

unfoldable pub impact_step : ℕ → Float → ℕ → ℕ → Unit {0} → Float × Unit {0}
impact_step w norm t k s = (impact_of w norm (t + k), s)

unfoldable pub env_step : Adsr → Float → Float → ℕ → ℕ → Unit {0} → Float × Unit {0}
env_step e srf relStart t k s = (env_of e srf relStart (t + k), s)

-- its passes: the seconds; the envelope at the seconds ys
unfoldable pub seconds_step : Float → ℕ → ℕ → Unit {0} → Float × Unit {0}
seconds_step srf t k s = (seconds_of (t + k) srf, s)

unfoldable pub env_level_step : List Float → Adsr → Float → ℕ → Unit {0} → Float × Unit {0}
env_level_step ys e relStart k s = (adsr_of e (at ys k) relStart, s)
