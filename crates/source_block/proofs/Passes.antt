-- Env in two passes is Env.
use Rattle.std.proofs.Common.{◌≡◌, ap, ◌∙◌, ℕ, ◌<◌, length}
use Rattle.std.specs.Prelude.{List, Float}
use Rattle.std.specs.Float.{nan}
use Rattle.tree.specs.Block.{tab-eq}
use Rattle.dsl.specs.declared.Adsr.{Adsr}
use Rattle.envelope.specs.Envelope.{adsr_of}
use Rattle.block.specs.Iterate.{at, given, sample_at, given-length, given-at}
use Rattle.unpitched.specs.Others.{env_of}
use Rattle.source_block.specs.Steps.{env_step, seconds_step, env_level_step}

-- ys are the seconds of a block of n
module _ (e : Adsr) (srf relStart : Float) (t n : ℕ) (ys : List Float) (is-ys : ys ≡ given (seconds_step srf t) tt n) where
  env-length : length ys ≡ n
  env-length = ap length is-ys ∙ given-length (seconds_step srf t) tt n

  env-sample : (k : ℕ) → k < n → sample_at (env_level_step ys e relStart) tt k ≡ sample_at (env_step e srf relStart t) tt k
  unfolding env_level_step seconds_step env_step env_of
  env-sample k h = ap (λ (y : Float). adsr_of e y relStart) (ap (λ (l : List Float). at l k) is-ys ∙ given-at (seconds_step srf t) tt n k nan h)

  pub given-env : given (env_level_step ys e relStart) tt (length ys) ≡ given (env_step e srf relStart t) tt n
  unfolding given
  given-env = rw env-length (tab-eq n (sample_at (env_level_step ys e relStart) tt) (sample_at (env_step e srf relStart t) tt) env-sample)
