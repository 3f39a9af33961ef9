-- Sine in two passes is Sine, and Fm in four is Fm.
use Rattle.std.proofs.Common.{◌≡◌, refl, ap, ◌∙◌, List, map, ℕ, zero, suc, ◌<◌, length, Float}
use Rattle.std.specs.Float.{nan}
use Rattle.tree.specs.Block.{tab-eq}
use Rattle.float.specs.Single.{◌⊕◌, ◌⊗◌, tau}
use Rattle.dsp.specs.Math.{sine}
use Rattle.dsp.specs.Map.{map-tab, mapped-length, mapped_at}
use Rattle.osc.specs.Osc.{osc_of}
use Rattle.block.specs.Iterate.{at, after, given, sample_at}
use Rattle.source.specs.Oscillators.{sine_of, fm_of}
use Rattle.source.specs.declared.Frequencies.{Frequencies}
use Rattle.source.specs.declared.Fm.{Fm}
use Rattle.osc_block.specs.Steps.{sine_step, sine_argument_step, fm_step, modulator_step, carrier_step}

module _ (w : Frequencies) (phase : Float) where
  abbrev argument : ℕ → Float → Float × Float
  argument = sine_argument_step w

  pub after-sine : (n : ℕ) → after argument phase n ≡ after (sine_step w) phase n
  unfolding after sine_step sine_argument_step sine_of
  after-sine zero = refl
  after-sine (suc n) = ap (λ (u : Float). (argument n u).1) (after-sine n)

  pub given-sine : (n : ℕ) → map sine (given argument phase n) ≡ given (sine_step w) phase n
  unfolding given sine_step sine_argument_step sine_of osc_of
  given-sine n =
      map-tab sine n (sample_at argument phase)
      ∙ tab-eq n (λ k. sine (sample_at argument phase k)) (sample_at (sine_step w) phase) (λ k h. ap (λ (u : Float). sine (argument k u).0) (after-sine k))

-- ms are the modulator's sines, in a buffer of n
module _ (w : Frequencies) (index ms : List Float) (ratio : Float) (s : Fm) (n : ℕ) where
  abbrev whole : ℕ → Fm → Float × Fm
  whole = fm_step w index ratio

  abbrev modulator : ℕ → Float → Float × Float
  modulator = modulator_step w ratio

  abbrev carrier : ℕ → Float → Float × Float
  carrier = carrier_step ms w index

  abbrev phases : ℕ → Fm
  phases k = record { cph = after carrier s.cph k; mph = after modulator s.mph k }

  phases-are : (k : ℕ) → phases k ≡ after whole s k
  unfolding after fm_step modulator_step carrier_step fm_of
  phases-are zero = refl
  phases-are (suc k) = ap (λ (u : Fm). (whole k u).1) (phases-are k)

  module _ (is-ms : ms ≡ map sine (given modulator s.mph n)) where
    length-ms : length ms ≡ n
    unfolding given
    length-ms = mapped-length sine n (sample_at modulator s.mph) is-ms

    sample-is : (k : ℕ) → k < n → sine (sample_at carrier s.cph k) ≡ sample_at whole s k
    unfolding given fm_step modulator_step carrier_step fm_of
    sample-is k h =
        ap (λ (m : Float). sine (tau ⊗ (phases k).cph ⊕ at index k ⊗ m)) (mapped_at sine n (sample_at modulator s.mph) is-ms k nan h)
        ∙ ap (λ (u : Fm). (whole k u).0) (phases-are k)

    pub after-fm : record { cph = after carrier s.cph (length ms); mph = after modulator s.mph n } ≡ after whole s n
    after-fm = rw length-ms (phases-are n)

    pub given-fm : map sine (given carrier s.cph (length ms)) ≡ given whole s n
    unfolding given
    given-fm = rw length-ms (map-tab sine n (sample_at carrier s.cph) ∙ tab-eq n (λ k. sine (sample_at carrier s.cph k)) (sample_at whole s) sample-is)
