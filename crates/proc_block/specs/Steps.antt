-- The one-sample kernels as steps of a block: xs are the samples that come in.
use Rattle.std.specs.Prelude.{List, ℕ, ◌+◌, Float}
use Rattle.block.specs.Iterate.{at}
use Rattle.dsl.specs.declared.DriveShape.{DriveShape}
use Rattle.biquad.specs.declared.Response.{Response}
use Rattle.drive.specs.Drive.{decay_of, ln_cosh}
use Rattle.filter_step.specs.declared.Filter.{Filter}
use Rattle.drive_step.specs.declared.Drive.{Drive}
use Rattle.proc.specs.declared.Compressor.{Compressor}
use Rattle.proc.specs.Effects.{gain_of, lfo_angle, lfo_at, tremolo_by, tremolo_of, compress_level, compress_gain, compress_of}
use Rattle.filter_step.specs.Filter.{filter_of}
use Rattle.drive_step.specs.Drive.{driven, drive_by, drive_step, drive_plain}

unfoldable pub gain_step : List Float → List Float → ℕ → Unit {0} → Float × Unit {0}
gain_step xs amount k s = (gain_of (at amount k) (at xs k), s)

unfoldable pub filter_step : List Float → List Float → Response → ℕ → Filter → Float × Filter
filter_step xs cutoff r k s = filter_of r (at cutoff k) s (at xs k)

unfoldable pub drive_step_at : List Float → List Float → DriveShape → ℕ → Drive → Float × Drive
drive_step_at xs amount shape k s = drive_step shape (at amount k) s (at xs k)

-- its passes for tanh: amplified; the decays; the antiderivatives, fs, from the decays, ds; the averages
unfoldable pub driven_step : List Float → List Float → ℕ → Unit {0} → Float × Unit {0}
driven_step xs amount k s = (driven (at amount k) (at xs k), s)

unfoldable pub decay_step : List Float → ℕ → Unit {0} → Float × Unit {0}
decay_step xs k s = (decay_of (at xs k), s)

unfoldable pub ln_cosh_step : List Float → List Float → ℕ → Unit {0} → Float × Unit {0}
ln_cosh_step xs ds k s = (ln_cosh (at xs k) (at ds k), s)

unfoldable pub drive_by_step : List Float → List Float → DriveShape → ℕ → Drive → Float × Drive
drive_by_step xs fs shape k s = drive_by shape (at xs k) (at fs k) s

unfoldable pub drive_plain_step : List Float → List Float → DriveShape → ℕ → Unit {0} → Float × Unit {0}
drive_plain_step xs amount shape k s = (drive_plain shape (at amount k) (at xs k), s)

-- the LFO of Tremolo and Chorus from position t on, and its passes: the angles, xs, and their sines
unfoldable pub lfo_step : Float → Float → ℕ → ℕ → Unit {0} → Float × Unit {0}
lfo_step rate srf t k s = (lfo_at rate srf (t + k), s)

unfoldable pub angle_step : Float → Float → ℕ → ℕ → Unit {0} → Float × Unit {0}
angle_step rate srf t k s = (lfo_angle rate srf (t + k), s)

unfoldable pub tremolo_step : List Float → Float → Float → Float → ℕ → ℕ → Unit {0} → Float × Unit {0}
tremolo_step xs rate depth srf t k s = (tremolo_of rate depth srf (t + k) (at xs k), s)

-- from the sines of the LFO
unfoldable pub tremolo_by_step : List Float → List Float → Float → ℕ → Unit {0} → Float × Unit {0}
tremolo_by_step xs sines depth k s = (tremolo_by depth (at sines k) (at xs k), s)

unfoldable pub compress_step : List Float → Compressor → ℕ → Float → Float × Float
compress_step xs c k env = compress_of c env (at xs k)

-- its two passes
unfoldable pub level_step : List Float → Compressor → ℕ → Float → Float × Float
level_step xs c k env = compress_level c env (at xs k)

unfoldable pub level_gain_step : List Float → List Float → Compressor → ℕ → Unit {0} → Float × Unit {0}
level_gain_step xs levels c k s = (compress_gain c (at levels k) (at xs k), s)
