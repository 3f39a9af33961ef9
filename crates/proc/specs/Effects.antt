-- Gain, Tremolo, Compress, a mode of Modal and the sine of an LFO for one sample: x is the input.
use Rattle.std.specs.Prelude.{cond, ℕ, pos, Float}
use Rattle.std.specs.Float.{binary32}
use Rattle.std.specs.Float.Ieee.{neg, lt, of_bits, of_int}
use Rattle.float.specs.Order.{abs_of, max_of}
use Rattle.float.specs.Single.{◌⊕◌, ◌⊖◌, ◌⊗◌, ◌⊘◌, zero, half, one, tau}
use Rattle.dsp.specs.Math.{sine, power, logarithm10}
use Rattle.proc.specs.declared.Mode.{Mode}
use Rattle.proc.specs.declared.Compressor.{Compressor}

-- x in the part that is not mixed, wet in the part that is
abbrev pub blend : Float → Float → Float → Float
blend mix x wet = x ⊗ (one ⊖ mix) ⊕ wet ⊗ mix

abbrev pub gain_of : Float → Float → Float
gain_of amount x = x ⊗ amount

-- ---- a mode of Modal: the sample, and the mode then
unfoldable pub mode_of : Mode → Float → Float × Mode
mode_of m x = let y = m.b0 ⊗ x ⊕ m.a1 ⊗ m.y1 ⊕ m.a2 ⊗ m.y2 in (y, record { a1 = m.a1; a2 = m.a2; b0 = m.b0; y1 = y; y2 = m.y1 })

-- ---- Tremolo and Chorus: a sine of the position
abbrev pub lfo_angle : Float → Float → ℕ → Float
lfo_angle rate srf t = tau ⊗ rate ⊗ of_int binary32 (pos t) ⊘ srf

abbrev pub lfo_at : Float → Float → ℕ → Float
lfo_at rate srf t = sine (lfo_angle rate srf t)

-- y is the sine
abbrev pub tremolo_by : Float → Float → Float → Float
tremolo_by depth y x = x ⊗ (one ⊖ depth ⊗ (half ⊕ half ⊗ y))

unfoldable pub tremolo_of : Float → Float → Float → ℕ → Float → Float
tremolo_of rate depth srf t x = tremolo_by depth (lfo_at rate srf t) x

-- ---- Compress: an envelope follower, its level in dB above the threshold turned down by the ratio
-- the follower goes to the rectified sample by the attack where it rises and by the release where it falls
unfoldable pub followed : Compressor → Float → Float → Float
followed c env rect = rect ⊕ cond (lt env rect) c.at c.rt ⊗ (env ⊖ rect)

unfoldable pub reduction_of : Compressor → Float → Float
reduction_of c db = cond (lt c.threshold db) (neg (db ⊖ c.threshold) ⊗ (one ⊖ one ⊘ c.ratio)) zero

-- the sample, and the follower then
unfoldable pub compress_of : Compressor → Float → Float → Float × Float
compress_of c env x =
    let e = followed c env (abs_of x) in
    let db = of_bits binary32 0x41a0_0000 ⊗ logarithm10 (max_of e (of_bits binary32 0x3089_705f)) in
    (x ⊗ power (of_bits binary32 0x4120_0000) (reduction_of c db ⊘ of_bits binary32 0x41a0_0000) ⊗ c.makeup, e)

-- its two halves: the power of 10 that the gain is with the follower, and the gain
abbrev pub compress_level : Compressor → Float → Float → Float × Float
compress_level c env x =
    let e = followed c env (abs_of x) in
    let db = of_bits binary32 0x41a0_0000 ⊗ logarithm10 (max_of e (of_bits binary32 0x3089_705f)) in
    (reduction_of c db ⊘ of_bits binary32 0x41a0_0000, e)

abbrev pub compress_gain : Compressor → Float → Float → Float
compress_gain c level x = x ⊗ power (of_bits binary32 0x4120_0000) level ⊗ c.makeup
