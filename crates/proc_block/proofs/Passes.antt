-- Compress in two passes is Compress, Drive by tanh in four is Drive, the LFO in two is the LFO, and Tremolo by its sines is Tremolo.
use Rattle.std.proofs.Common.{◌≡◌, refl, sym, ap, ◌∙◌, List, map, length, ℕ, zero, suc, ◌≤◌, ◌<◌, arith}
use Rattle.std.specs.Prelude.{Float}
use Rattle.std.specs.Float.{nan}
use Rattle.tree.specs.Block.{tab-eq}
use Rattle.block.specs.Iterate.{at, after, given, sample_at, given-length, given-at, after_same, given-same}
use Rattle.dsl.specs.declared.DriveShape.TheVariants.{Tanh}
use Rattle.dsp.specs.Map.{map-tab}
use Rattle.dsp.specs.Math.{sine}
use Rattle.drive.specs.Drive.{ln_cosh, antiderivative_of}
use Rattle.drive_step.specs.declared.Drive.{Drive}
use Rattle.drive_step.specs.Drive.{driven, drive_by, drive_step}
use Rattle.proc.specs.declared.Compressor.{Compressor}
use Rattle.proc.specs.Effects.{tremolo_by, tremolo_of, compress_gain, compress_of}
use Rattle.proc_block.specs.Steps.{driven_step, decay_step, ln_cosh_step, drive_by_step, drive_step_at, lfo_step, angle_step, tremolo_step, tremolo_by_step, compress_step, level_step, level_gain_step}

module _ (xs : List Float) (c : Compressor) (env : Float) where
  abbrev whole : ℕ → Float → Float × Float
  whole = compress_step xs c

  abbrev first : ℕ → Float → Float × Float
  first = level_step xs c

  pub after-levels : (n : ℕ) → after whole env n ≡ after first env n
  unfolding after compress_step level_step compress_of
  after-levels zero = refl
  after-levels (suc n) = ap (λ (u : Float). (first n u).1) (after-levels n)

  level-is : (n k : ℕ) → k < n → sample_at whole env k ≡ sample_at (level_gain_step xs (given first env n) c) tt k
  unfolding compress_step level_step level_gain_step compress_of
  level-is n k h = ap (λ (u : Float). (whole k u).0) (after-levels k) ∙ ap (λ (y : Float). compress_gain c y (at xs k)) (sym (given-at first env n k nan h))

  pub given-levels : (n : ℕ) → given whole env n ≡ given (level_gain_step xs (given first env n) c) tt n
  unfolding given
  given-levels n = tab-eq n (sample_at whole env) (sample_at (level_gain_step xs (given first env n) c) tt) (level-is n)

-- ys are the amplified samples, ds their decays, in a buffer of n, and fs their antiderivatives
module _ (xs amount ys ds fs : List Float) (n : ℕ) (long : n ≡ length xs)
    (is-ys : ys ≡ given (driven_step xs amount) tt (length xs))
    (is-ds : ds ≡ given (decay_step ys) tt n)
    (is-fs : fs ≡ given (ln_cosh_step ys ds) tt (length ds)) where
  length-ys : length ys ≡ length xs
  length-ys = ap length is-ys ∙ given-length (driven_step xs amount) tt (length xs)

  length-ds : length ds ≡ length xs
  length-ds = ap length is-ds ∙ given-length (decay_step ys) tt n ∙ long

  sample-is : (k : ℕ) → k < length xs → at ys k ≡ driven (at amount k) (at xs k)
  unfolding driven_step
  sample-is k h = ap (λ (l : List Float). at l k) is-ys ∙ given-at (driven_step xs amount) tt (length xs) k nan h

  antiderivative-is : (k : ℕ) → k < length xs → at fs k ≡ antiderivative_of Tanh (at ys k)
  unfolding decay_step ln_cosh_step antiderivative_of
  antiderivative-is k h =
      ap (λ (l : List Float). at l k) is-fs
      ∙ given-at (ln_cosh_step ys ds) tt (length ds) k nan (omega (arith, length-ds))
      ∙ ap (ln_cosh (at ys k)) (ap (λ (l : List Float). at l k) is-ds ∙ given-at (decay_step ys) tt n k nan (omega arith))

  step_is : (k : ℕ) → k < length xs → (u : Drive) → drive_by_step ys fs Tanh k u ≡ drive_step_at xs amount Tanh k u
  unfolding drive_by_step drive_step_at drive_step
  step_is k h u =
      ap (λ (f : Float). drive_by Tanh (at ys k) f u) (antiderivative-is k h)
      ∙ ap (λ (x : Float). drive_by Tanh x (antiderivative_of Tanh x) u) (sample-is k h)

  pub given-drive : (s : Drive) → given (drive_by_step ys fs Tanh) s (length ys) ≡ given (drive_step_at xs amount Tanh) s (length xs)
  given-drive s = ap (given (drive_by_step ys fs Tanh) s) length-ys ∙ given-same (drive_by_step ys fs Tanh) (drive_step_at xs amount Tanh) s (length xs) step_is

  pub after-drive : (s : Drive) → after (drive_by_step ys fs Tanh) s (length ys) ≡ after (drive_step_at xs amount Tanh) s (length xs)
  after-drive s = ap (after (drive_by_step ys fs Tanh) s) length-ys ∙ after_same (drive_by_step ys fs Tanh) (drive_step_at xs amount Tanh) s (length xs) step_is

-- the sines of the angles
pub given-lfo : (rate srf : Float) (t n : ℕ) → map sine (given (angle_step rate srf t) tt n) ≡ given (lfo_step rate srf t) tt n
unfolding given angle_step lfo_step
given-lfo rate srf t n = map-tab sine n (sample_at (angle_step rate srf t) tt)

-- ys are the sines, in a buffer of m
pub given-tremolo : (xs : List Float) (rate depth srf : Float) (t m : ℕ) {ys : List Float} → length xs ≤ m → ys ≡ given (lfo_step rate srf t) tt m
    → given (tremolo_by_step xs ys depth) tt (length xs) ≡ given (tremolo_step xs rate depth srf t) tt (length xs)
unfolding lfo_step tremolo_by_step tremolo_step tremolo_of
given-tremolo xs rate depth srf t m {ys} long e = given-same (tremolo_by_step xs ys depth) (tremolo_step xs rate depth srf t) tt (length xs)
    (λ k h u. ap {B = Float × Unit {0}} (λ y. (tremolo_by depth y (at xs k), u)) (ap (λ (l : List Float). at l k) e ∙ given-at (lfo_step rate srf t) tt m k nan (omega arith)))
