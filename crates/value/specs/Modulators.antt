-- The values for one sample. t is the position, srf the rate as an f32; what depends on the sheet alone is given: secs floored, the release's start.
use Rattle.std.specs.Prelude.{cond, ◌&&◌, List, ℕ, ◌%◌, eqb, length, get_or, pos, Float}
use Rattle.std.specs.Float.{nan, binary32}
use Rattle.std.specs.Float.Ieee.{lt, of_bits, of_int, to_unsigned}
use Rattle.rounding.specs.Whole.{fract_of}
use Rattle.float.specs.Order.{max_of, clamp_of}
use Rattle.float.specs.Single.{◌⊕◌, ◌⊖◌, ◌⊗◌, ◌⊘◌, zero as zero_f, one}
use Rattle.dsp.specs.Math.{power}
use Rattle.envelope.specs.Envelope.{adsr_of}
use Rattle.osc.specs.Osc.{osc_of}
use Rattle.dsl.specs.declared.Curve.{Curve}
use Rattle.dsl.specs.declared.Curve.TheVariants.{Lin, Exp}
use Rattle.dsl.specs.declared.Slide.{Slide}
use Rattle.dsl.specs.declared.Lfo.{Lfo}
use Rattle.dsl.specs.declared.EnvMod.{EnvMod}

-- the position in seconds
abbrev pub seconds_of : ℕ → Float → Float
seconds_of t srf = of_int binary32 (pos t) ⊘ srf

-- linear interpolation
abbrev pub lerp : Float → Float → Float → Float
lerp from to p = from ⊕ (to ⊖ from) ⊗ p

-- Slide: over secs, at least a millionth, along a line, or along a geometric curve where both ends are above 0 and a parabola where not
unfoldable pub slide_secs : Float → Float
slide_secs secs = max_of secs (of_bits binary32 0x3586_37bd)

unfoldable pub slide_exp : Float → Float → Float → Float
slide_exp from to p = cond (lt zero_f from && lt zero_f to) (from ⊗ power (to ⊘ from) p) (lerp from to (p ⊗ p))

-- p of the way along the curve
unfoldable pub eased : Curve → Float → Float → Float → Float
eased Lin from to p = lerp from to p
eased Exp from to p = slide_exp from to p

-- at x seconds; the slide's own secs are floored already
unfoldable pub slide_at : Slide → Float → Float
slide_at v x = eased v.curve v.from v.to (clamp_of (x ⊘ v.secs) zero_f one)

unfoldable pub slide_of : Slide → Float → ℕ → Float
slide_of v srf t = slide_at v (seconds_of t srf)

-- Lfo: the phase is the fraction of the turns made, which is negative where the rate is
unfoldable pub lfo_phase : Float → Float → ℕ → Float
lfo_phase rate srf t = fract_of binary32 (seconds_of t srf ⊗ rate)

unfoldable pub lfo_of : Lfo → Float → ℕ → Float
lfo_of v srf t = v.center ⊕ v.depth ⊗ osc_of v.shape (lfo_phase v.rate srf t)

-- Arp: which of n steps sounds, n above 0
unfoldable pub arp_index : Float → Float → ℕ → ℕ → ℕ
arp_index rate srf t n = to_unsigned 64 (seconds_of t srf ⊗ rate) % n

-- the step that sounds; without steps, 0
unfoldable pub arp_of : List Float → Float → Float → ℕ → Float
arp_of steps rate srf t = cond (eqb (length steps) 0) zero_f (get_or steps (arp_index rate srf t (length steps)) nan)

-- the release of an envelope starts r seconds before the sheet's length n, and not before 0
unfoldable pub release_start : ℕ → Float → Float → Float
release_start n srf r = max_of (of_int binary32 (pos n) ⊘ srf ⊖ r) zero_f

unfoldable pub env_mod_of : EnvMod → Float → Float → ℕ → Float
env_mod_of v srf relStart t = lerp v.from v.to (adsr_of v.env (seconds_of t srf) relStart)
