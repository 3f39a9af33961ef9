-- The one-sample kernels as steps of a block. All but Rand keep no state: what they give depends on the position t + k alone.
use Rattle.std.specs.Prelude.{List, ℕ, ◌+◌, Float}
use Rattle.float.specs.Single.{◌⊕◌, ◌⊗◌, tau}
use Rattle.block.specs.Iterate.{at}
use Rattle.dsl.specs.declared.Slide.{Slide}
use Rattle.dsl.specs.declared.Lfo.{Lfo}
use Rattle.dsl.specs.declared.EnvMod.{EnvMod}
use Rattle.rand_value.specs.declared.Rand.{Rand}
use Rattle.value.specs.Modulators.{slide_of, lfo_phase, lfo_of, env_mod_of}
use Rattle.rand_value.specs.Rand.{rand_out, rand_next}

unfoldable pub slide_step : Slide → Float → ℕ → ℕ → Unit {0} → Float × Unit {0}
slide_step v srf t k s = (slide_of v srf (t + k), s)

unfoldable pub lfo_step : Lfo → Float → ℕ → ℕ → Unit {0} → Float × Unit {0}
lfo_step v srf t k s = (lfo_of v srf (t + k), s)

-- its passes for a sine: the arguments; what the sines, ys, come to about the center
unfoldable pub lfo_argument_step : Float → Float → ℕ → ℕ → Unit {0} → Float × Unit {0}
lfo_argument_step rate srf t k s = (tau ⊗ lfo_phase rate srf (t + k), s)

unfoldable pub lfo_level_step : List Float → Float → Float → ℕ → Unit {0} → Float × Unit {0}
lfo_level_step ys depth center k s = (center ⊕ depth ⊗ at ys k, s)

unfoldable pub env_mod_step : EnvMod → Float → Float → ℕ → ℕ → Unit {0} → Float × Unit {0}
env_mod_step v srf relStart t k s = (env_mod_of v srf relStart (t + k), s)

unfoldable pub rand_step : Float → Float → Float → ℕ → Rand → Float × Rand
rand_step inc from to k s = (rand_out s, rand_next inc from to s)
