-- The other sources for one sample: the strike of a mallet, the noises, dust.
use Rattle.std.specs.Prelude.{cond, [], ◌∷◌, ℕ, max, pos, get_or, ltb, Float}
use Rattle.std.specs.Float.{nan, binary32}
use Rattle.std.specs.Float.Ieee.{neg, lt, of_bits, of_int, to_unsigned}
use Rattle.rounding.specs.Whole.{round_of}
use Rattle.float.specs.Order.{clamp_of}
use Rattle.float.specs.Single.{◌⊕◌, ◌⊖◌, ◌⊗◌, ◌⊘◌, zero, half, one, tau}
use Rattle.dsp.specs.Math.{cosine}
use Rattle.rng.specs.Random.{stepped, unit_of, bi_of}
use Rattle.dsp.specs.Coefficients.{one_pole_of}
use Rattle.dsl.specs.declared.Adsr.{Adsr}
use Rattle.envelope.specs.Envelope.{adsr_of}
use Rattle.value.specs.Modulators.{seconds_of}
use Rattle.unpitched.specs.declared.Impact.{Impact}
use Rattle.unpitched.specs.declared.Pink.{Pink}
use Rattle.unpitched.specs.declared.Brown.{Brown}
use Rattle.unpitched.specs.declared.Dust.{Dust}

-- Impact: a Hann lobe of w samples, 8 ms where soft and 0.3 ms where hard, of unit area times the velocity
unfoldable pub impact_width : Float → Float → ℕ
impact_width hardness srf =
    let h = clamp_of hardness zero one in
    max (to_unsigned 64 (round_of binary32 ((of_bits binary32 0x3c03_126f ⊗ (one ⊖ h) ⊕ of_bits binary32 0x399d_4952 ⊗ h) ⊗ srf))) 1

unfoldable pub impact_norm : Float → ℕ → Float
impact_norm velocity w = clamp_of velocity zero one ⊘ (half ⊗ of_int binary32 (pos w))

abbrev pub impact_by : Float → Float → Float → Impact
impact_by hardness velocity srf = let w = impact_width hardness srf in record { w = w; norm = impact_norm velocity w }

unfoldable pub impact_of : ℕ → Float → ℕ → Float
impact_of w norm t = cond (ltb t w) (norm ⊗ half ⊗ (one ⊖ cosine (tau ⊗ ((of_int binary32 (pos t) ⊕ half) ⊘ of_int binary32 (pos w))))) zero

-- Env: the envelope at the position t; its release starts at relStart
unfoldable pub env_of : Adsr → Float → Float → ℕ → Float
env_of e srf relStart t = adsr_of e (seconds_of t srf) relStart

-- white noise: the generator's word in, the sample and the next word
unfoldable pub white_of : ℕ → Float × ℕ
white_of word = (bi_of word, stepped word)

-- pink: Paul Kellet's filter over white noise w: the sum of six one-pole filters, of w and of the w before; the state is their outputs and that w, weighted
abbrev pub pole : Pink → ℕ → Float
pole s k = get_or s.poles k nan

unfoldable pub pink_of : Pink → Float × Pink
pink_of s =
    let w = bi_of s.rng.state in
    let b0 = of_bits binary32 0x3f7f_b54a ⊗ pole s 0 ⊕ w ⊗ of_bits binary32 0x3d63_66bd in
    let b1 = of_bits binary32 0x3f7e_4a38 ⊗ pole s 1 ⊕ w ⊗ of_bits binary32 0x3d99_c165 in
    let b2 = of_bits binary32 0x3f78_1062 ⊗ pole s 2 ⊕ w ⊗ of_bits binary32 0x3e1d_8b61 in
    let b3 = of_bits binary32 0x3f5d_d2f2 ⊗ pole s 3 ⊕ w ⊗ of_bits binary32 0x3e9e_f7f8 in
    let b4 = of_bits binary32 0x3f0c_cccd ⊗ pole s 4 ⊕ w ⊗ of_bits binary32 0x3f08_6f8e in
    let b5 = neg (of_bits binary32 0x3f42_f838) ⊗ pole s 5 ⊖ w ⊗ of_bits binary32 0x3c8a_6dad in
    let v = b0 ⊕ b1 ⊕ b2 ⊕ b3 ⊕ b4 ⊕ b5 ⊕ pole s 6 ⊕ w ⊗ of_bits binary32 0x3f09_4467 in
    (v ⊗ of_bits binary32 0x3de1_47ae, record { rng = record { state = stepped s.rng.state }; poles = b0 ∷ b1 ∷ b2 ∷ b3 ∷ b4 ∷ b5 ∷ (w ⊗ of_bits binary32 0x3ded_6a9c) ∷ [] })

-- brown: white noise integrated with a leak, times 8, clamped
unfoldable pub brown_of : Brown → Float × Brown
brown_of s =
    let l = (s.last ⊕ of_bits binary32 0x3ca3_d70a ⊗ bi_of s.rng.state) ⊗ of_bits binary32 0x3f7f_7cee in
    (clamp_of (l ⊗ of_bits binary32 0x4100_0000) (neg one) one, record { rng = record { state = stepped s.rng.state }; last = l })

-- Dust: with the chance p in each sample an impulse of a random height, which then decays by g a sample
unfoldable pub dust_chance : Float → Float → Float
dust_chance density srf = clamp_of (density ⊘ srf) zero one

unfoldable pub dust_decay : Float → Float → Float
dust_decay decay srf = cond (lt zero decay) (one_pole_of decay srf) zero

unfoldable pub dust_of : Float → Float → Dust → Float × Dust
dust_of p g s =
    let word = s.rng.state in
    let hit = lt (unit_of word) p in
    let z = cond hit (bi_of (stepped word)) zero ⊕ g ⊗ s.y in
    (z, record { rng = record { state = cond hit (stepped (stepped word)) (stepped word) }; y = z })
