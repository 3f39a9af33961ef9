-- Coefficients that a voice works out when it is built.
use Rattle.std.specs.Prelude.{ℕ, pos, Float}
use Rattle.std.specs.Float.{binary32}
use Rattle.std.specs.Float.Ieee.{neg, of_bits, of_int}
use Rattle.float.specs.Order.{max_of, clamp_of}
use Rattle.float.specs.Single.{◌⊕◌, ◌⊖◌, ◌⊗◌, ◌⊘◌, zero, half, one, two, tau}
use Rattle.dsp.specs.Math.{sine, cosine, exponential}
use Rattle.dsp.specs.declared.Resonator.{Resonator}

-- what a decay with the time constant secs keeps in one sample: e ^ (-1 / (secs * sr))
unfoldable pub one_pole_of : Float → Float → Float
one_pole_of secs sr = exponential (neg one ⊘ (secs ⊗ sr))

-- an envelope follower's attack or release, at least 0.1 ms long
unfoldable pub follower_of : Float → Float → Float
follower_of secs sr = one_pole_of (max_of secs (of_bits binary32 0x38d1_b717)) sr

-- A mode's resonator: y = b0 x + a1 y' + a2 y''. Its ring falls by 60 dB in decay seconds, e ^ -6.907755 being 1 / 1000.
unfoldable pub modal_of : Float → Float → Float → ℕ → Resonator
modal_of freq decay gain sr =
    let srf = of_int binary32 (pos sr) in
    let f0 = clamp_of freq one (max_of (srf ⊗ half ⊖ one) one) in
    let w0 = tau ⊗ f0 ⊘ srf in
    let r = exponential (neg (of_bits binary32 0x40dd_0c54) ⊘ (max_of decay (of_bits binary32 0x3a83_126f) ⊗ srf)) in
    record { a1 = two ⊗ r ⊗ cosine w0; a2 = neg r ⊗ r; b0 = gain ⊗ sine w0 }

-- Freeverb's room size as the combs' feedback: 0.7 + 0.28 room
unfoldable pub feedback_of : Float → Float
feedback_of room = of_bits binary32 0x3f33_3333 ⊕ of_bits binary32 0x3e8f_5c29 ⊗ clamp_of room zero one
