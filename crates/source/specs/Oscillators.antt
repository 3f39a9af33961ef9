-- The oscillators for one sample: what they put out and the phase that they leave. f is the frequency's value, pitch the live multiplier, srf the rate.
use Rattle.std.specs.Prelude.{cond, ℕ, ◌≤◌, length, Float}
use Rattle.std.specs.Float.{binary32}
use Rattle.std.specs.Float.Ieee.{neg, lt, of_bits}
use Rattle.rounding.specs.Whole.{fract_of, wrap_of}
use Rattle.float.specs.Order.{max_of, clamp_of}
use Rattle.float.specs.Single.{◌⊕◌, ◌⊖◌, ◌⊗◌, ◌⊘◌, zero, half, one, two, four, tau}
use Rattle.dsp.specs.Math.{sine}
use Rattle.osc.specs.Osc.{poly_blep, osc_of}
use Rattle.dsl.specs.declared.Shape.TheVariants.{Sine}
use Rattle.dsl.specs.declared.SuperWave.{SuperWave}
use Rattle.dsl.specs.declared.SuperWave.TheVariants as wave
use Rattle.source.specs.declared.Frequencies.{Frequencies}
use Rattle.source.specs.declared.Triangle.{Triangle}
use Rattle.source.specs.declared.Fm.{Fm}

-- w has as many samples as a block of n
abbrev pub Covers : ℕ → Frequencies → Type 0
Covers n w = (n ≤ length w.values.now) × (n ≤ length w.pitch.now)

-- a frequency below 0, or a NaN, counts as 0
abbrev pub hertz : Float → Float → Float
hertz f pitch = max_of f zero ⊗ pitch

-- how far the phase goes in a sample
abbrev pub increment : Float → Float → Float → Float
increment f pitch srf = hertz f pitch ⊘ srf

abbrev pub advance : Float → Float → Float
advance phase dt = wrap_of binary32 (phase ⊕ dt)

unfoldable pub sine_of : Float → Float → Float → Float → Float × Float
sine_of f pitch srf phase = (osc_of Sine phase, advance phase (increment f pitch srf))

-- a pulse wave: 1 up to the duty and -1 from there, and then with PolyBLEP at both edges
abbrev pub pulse_level : Float → Float → Float
pulse_level phase duty = cond (lt phase duty) one (neg one)

unfoldable pub pulse : Float → Float → Float → Float
pulse phase duty dt = pulse_level phase duty ⊕ poly_blep phase dt ⊖ poly_blep (fract_of binary32 (phase ⊖ duty ⊕ one)) dt

-- the duty is kept from 0.01 to 0.99
unfoldable pub square_of : Float → Float → Float → Float → Float → Float × Float
square_of f duty pitch srf phase =
    let dt = increment f pitch srf in
    (pulse phase (clamp_of duty (of_bits binary32 0x3c23_d70a) (of_bits binary32 0x3f7d_70a4)) dt, advance phase dt)

unfoldable pub saw_at : Float → Float → Float
saw_at phase dt = two ⊗ phase ⊖ one ⊖ poly_blep phase dt

unfoldable pub saw_of : Float → Float → Float → Float → Float × Float
saw_of f pitch srf phase = let dt = increment f pitch srf in (saw_at phase dt, advance phase dt)

-- a square of duty one half with PolyBLEP at both edges
unfoldable pub half_pulse : Float → Float → Float
half_pulse phase dt = pulse_level phase half ⊕ poly_blep phase dt ⊖ poly_blep (fract_of binary32 (phase ⊕ half)) dt

-- that square, integrated with a leak of 0.9995
unfoldable pub triangle_of : Float → Float → Float → Triangle → Float × Triangle
triangle_of f pitch srf s =
    let dt = increment f pitch srf in
    let y = s.tri ⊗ of_bits binary32 0x3f7f_df3b ⊕ four ⊗ dt ⊗ half_pulse s.phase dt in
    (y, record { phase = advance s.phase dt; tri = y })

-- a sine whose phase another sine moves, the modulator at ratio times the carrier's frequency
unfoldable pub fm_of : Float → Float → Float → Float → Float → Fm → Float × Fm
fm_of f index ratio pitch srf s =
    let fi = hertz f pitch in
    (sine (tau ⊗ s.cph ⊕ index ⊗ sine (tau ⊗ s.mph)), record { cph = advance s.cph (fi ⊘ srf); mph = advance s.mph (fi ⊗ ratio ⊘ srf) })

-- one voice of Super: f is already the frequency times the pitch, ratio the voice's detuning
unfoldable pub super_voice : SuperWave → Float → Float → Float → Float → Float × Float
super_voice wave.Sawtooth f ratio srf phase = let dt = f ⊗ ratio ⊘ srf in (saw_at phase dt, advance phase dt)
super_voice wave.Square f ratio srf phase = let dt = f ⊗ ratio ⊘ srf in (half_pulse phase dt, advance phase dt)
