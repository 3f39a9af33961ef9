-- The one-sample oscillators as steps of a block: sample k of the values' buffers goes in, and the state is what the kernel leaves.
use Rattle.std.specs.Prelude.{List, ℕ, Float}
use Rattle.float.specs.Single.{◌⊕◌, ◌⊗◌, ◌⊘◌, tau}
use Rattle.block.specs.Iterate.{at}
use Rattle.source.specs.Oscillators.{hertz, increment, advance, sine_of, square_of, saw_of, triangle_of, fm_of}
use Rattle.source.specs.declared.Frequencies.{Frequencies}
use Rattle.source.specs.declared.Triangle.{Triangle}
use Rattle.source.specs.declared.Fm.{Fm}

unfoldable pub sine_step : Frequencies → ℕ → Float → Float × Float
sine_step w k phase = sine_of (at w.values.now k) (at w.pitch.now k) w.srf phase

-- its first pass, the arguments of the sines
unfoldable pub sine_argument_step : Frequencies → ℕ → Float → Float × Float
sine_argument_step w k phase = (tau ⊗ phase, advance phase (increment (at w.values.now k) (at w.pitch.now k) w.srf))

unfoldable pub square_step : Frequencies → List Float → ℕ → Float → Float × Float
square_step w duty k phase = square_of (at w.values.now k) (at duty k) (at w.pitch.now k) w.srf phase

unfoldable pub saw_step : Frequencies → ℕ → Float → Float × Float
saw_step w k phase = saw_of (at w.values.now k) (at w.pitch.now k) w.srf phase

unfoldable pub triangle_step : Frequencies → ℕ → Triangle → Float × Triangle
triangle_step w k s = triangle_of (at w.values.now k) (at w.pitch.now k) w.srf s

unfoldable pub fm_step : Frequencies → List Float → Float → ℕ → Fm → Float × Fm
fm_step w index ratio k s = fm_of (at w.values.now k) (at index k) ratio (at w.pitch.now k) w.srf s

-- its passes for the arguments: the modulator's; the carrier's, from the modulator's sines, ms
unfoldable pub modulator_step : Frequencies → Float → ℕ → Float → Float × Float
modulator_step w ratio k mph = (tau ⊗ mph, advance mph (hertz (at w.values.now k) (at w.pitch.now k) ⊗ ratio ⊘ w.srf))

unfoldable pub carrier_step : List Float → Frequencies → List Float → ℕ → Float → Float × Float
carrier_step ms w index k cph = (tau ⊗ cph ⊕ at index k ⊗ at ms k, advance cph (increment (at w.values.now k) (at w.pitch.now k) w.srf))
