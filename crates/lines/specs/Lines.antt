-- How many samples the delay lines have, at sr samples a second. All is worked out in f32, each operation rounded. The cast at the end drops the fraction, and takes a NaN and what is below zero as 0.
use Rattle.std.specs.Prelude.{ℕ, ◌+◌, max, List, [], ◌∷◌, ◌++◌, pos, get_or, Float}
use Rattle.std.specs.Float.{binary32}
use Rattle.std.specs.Float.Ieee.{of_bits, of_int, add, mul, div, to_unsigned}
use Rattle.float.specs.Order.{min_of, clamp_of}

-- a whole number as an f32
abbrev pub single : ℕ → Float
single n = of_int binary32 (pos n)

-- 0.0 and 1.0
abbrev pub zero_f : Float
zero_f = of_bits binary32 0

abbrev pub one_f : Float
one_f = of_bits binary32 0x3f80_0000

-- 30.0, 0.015 and 0.01 seconds
abbrev pub max_delay_secs : Float
max_delay_secs = of_bits binary32 0x41f0_0000

abbrev pub chorus_base_secs : Float
chorus_base_secs = of_bits binary32 0x3c75_c28f

abbrev pub chorus_swing_secs : Float
chorus_swing_secs = of_bits binary32 0x3c23_d70a

-- 44100.0, the rate that the tunings below are for
abbrev pub tuning_rate : Float
tuning_rate = of_bits binary32 0x472c_4400

-- secs seconds, and one sample at least. `min_of` passes over a NaN, so a NaN counts as the longest.
unfoldable pub delay_line : Float → ℕ → ℕ
delay_line secs sr = max (to_unsigned 64 (mul binary32 (min_of secs max_delay_secs) (single sr))) 1

-- the chorus's delay in samples at the middle of its swing, and how far it swings to either side
unfoldable pub chorus_base : ℕ → Float
chorus_base sr = mul binary32 chorus_base_secs (single sr)

unfoldable pub chorus_swing : Float → ℕ → Float
chorus_swing depth sr = mul binary32 (mul binary32 (clamp_of depth zero_f one_f) chorus_swing_secs) (single sr)

-- a NaN depth leaves the two samples
unfoldable pub chorus_line : Float → ℕ → ℕ
chorus_line depth sr = to_unsigned 64 (add binary32 (chorus_base sr) (chorus_swing depth sr)) + 2

-- a line of t samples at the tunings' rate
unfoldable pub tuned_line : ℕ → ℕ → ℕ
tuned_line t sr = max (to_unsigned 64 (mul binary32 (single t) (div binary32 (single sr) tuning_rate))) 1

-- Freeverb's lines: six combs and four allpasses
abbrev pub comb_tunings : List ℕ
comb_tunings = 1116 ∷ 1188 ∷ 1277 ∷ 1356 ∷ 1422 ∷ 1491 ∷ []

abbrev pub allpass_tunings : List ℕ
allpass_tunings = 556 ∷ 441 ∷ 341 ∷ 225 ∷ []

abbrev pub reverb_tunings : List ℕ
reverb_tunings = comb_tunings ++ allpass_tunings

abbrev pub comb_line : ℕ → ℕ → ℕ
comb_line k sr = tuned_line (get_or comb_tunings k 0) sr

abbrev pub allpass_line : ℕ → ℕ → ℕ
allpass_line k sr = tuned_line (get_or allpass_tunings k 0) sr

-- the lengths of the six combs and the four allpasses
abbrev pub reverb_lines : ℕ → List ℕ
reverb_lines sr =
    comb_line 0 sr
    ∷ comb_line 1 sr
    ∷ comb_line 2 sr
    ∷ comb_line 3 sr
    ∷ comb_line 4 sr
    ∷ comb_line 5 sr
    ∷ allpass_line 0 sr
    ∷ allpass_line 1 sr
    ∷ allpass_line 2 sr
    ∷ allpass_line 3 sr
    ∷ []
