-- Delay, Chorus, and the combs and allpasses of Reverb, for one sample: x is the input. What is read from the line's place goes in, what is written to it comes out; the place then goes on by one, round the line.
use Rattle.std.specs.Prelude.{ℕ, ◌+◌, ◌%◌, pos, Float}
use Rattle.std.specs.Float.{binary32}
use Rattle.std.specs.Float.Ieee.{neg, of_bits, of_int, to_unsigned}
use Rattle.rounding.specs.Whole.{floor_of}
use Rattle.float.specs.Euclid.{rem_euclid_of}
use Rattle.float.specs.Single.{◌⊕◌, ◌⊖◌, ◌⊗◌, half, one}
use Rattle.proc.specs.Effects.{blend, lfo_at}
use Rattle.line_step.specs.declared.ChorusRead.{ChorusRead}

abbrev pub delay_of : Float → Float → Float → Float
delay_of feedback x delayed = x ⊕ feedback ⊗ delayed

abbrev pub next_place : ℕ → ℕ → ℕ
next_place w len = (w + 1) % len

-- Freeverb's damped comb: y is what the line held, the store its smoothed value. It gives the sample, the next store and what goes into the line. Its allpass, of gain one half, gives the sample and what goes into the line.
unfoldable pub comb_of : Float → Float → Float → Float → Float × Float × Float
comb_of feedback store x y =
    let damp = of_bits binary32 0x3e4c_cccd in
    let fs = y ⊗ (one ⊖ damp) ⊕ store ⊗ damp in
    (y, fs, x ⊕ fs ⊗ feedback)

unfoldable pub allpass_of : Float → Float → Float × Float
allpass_of wet buffered = (neg wet ⊕ buffered, wet ⊕ buffered ⊗ half)

-- what the six combs and four allpasses give, mixed with the input: a sixth of the combs' sum
unfoldable pub reverb_mix : Float → Float → Float → Float
reverb_mix mix x wet = blend mix x (wet ⊗ of_bits binary32 0x3e2a_aaab)

-- where Chorus reads: between two places of a line of len, the delay behind place w. A remainder that rounds up to len reads at 0.
unfoldable pub chorus_place : Float → Float → Float → ℕ → ℕ → ChorusRead
chorus_place base swing y len w =
    let delay = base ⊕ swing ⊗ y in
    let read = rem_euclid_of binary32 (of_int binary32 (pos w) ⊖ delay) (of_int binary32 (pos len)) in
    let i0 = to_unsigned 64 (floor_of binary32 read) % len in
    record { i0 = i0; i1 = (i0 + 1) % len; frac = read ⊖ floor_of binary32 read }

unfoldable pub chorus_read : Float → Float → Float → Float → ℕ → ℕ → ℕ → ChorusRead
chorus_read base swing rate srf len w t = chorus_place base swing (lfo_at rate srf t) len w

unfoldable pub chorus_of : Float → Float → Float → Float → Float → Float
chorus_of mix frac x a b = blend mix x (a ⊗ (one ⊖ frac) ⊕ b ⊗ frac)
