-- Lfo by a sine in three passes is Lfo.
use Rattle.std.proofs.Common.{◌≡◌, ℕ, ◌<◌, length}
use Rattle.std.specs.Prelude.{List, map, Float}
use Rattle.std.specs.Float.{nan}
use Rattle.tree.specs.Block.{tab-eq}
use Rattle.dsp.specs.Math.{sine}
use Rattle.dsp.specs.Map.{mapped-length, mapped_at}
use Rattle.dsl.specs.declared.Lfo.{Lfo}
use Rattle.dsl.specs.declared.Shape.TheVariants.{Sine}
use Rattle.osc.specs.Osc.{osc_of}
use Rattle.block.specs.Iterate.{given, sample_at}
use Rattle.value.specs.Modulators.{lfo_of}
use Rattle.value_block.specs.Steps.{lfo_step, lfo_argument_step, lfo_level_step}

-- ys are the sines, in a buffer of n
module _ (v : Lfo) (is-sine : v.shape ≡ Sine) (srf : Float) (t n : ℕ) (ys : List Float) (is-ys : ys ≡ map sine (given (lfo_argument_step v.rate srf t) tt n)) where
  length-ys : length ys ≡ n
  unfolding given
  length-ys = mapped-length sine n (sample_at (lfo_argument_step v.rate srf t) tt) is-ys

  sample-is : (k : ℕ) → k < n → sample_at (lfo_level_step ys v.depth v.center) tt k ≡ sample_at (lfo_step v srf t) tt k
  unfolding given lfo_step lfo_argument_step lfo_level_step lfo_of osc_of
  sample-is k h = rw (is-sine, mapped_at sine n (sample_at (lfo_argument_step v.rate srf t) tt) is-ys k nan h)

  pub given-lfo : given (lfo_level_step ys v.depth v.center) tt (length ys) ≡ given (lfo_step v srf t) tt n
  unfolding given
  given-lfo = rw length-ys (tab-eq n (sample_at (lfo_level_step ys v.depth v.center) tt) (sample_at (lfo_step v srf t) tt) sample-is)
