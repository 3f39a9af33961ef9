-- The sources for one sample, on what they own. Their values come first in vs: the frequency, then Square's duty or Fm's index.
use Rattle.std.specs.Prelude.{cond, List, [], ◌∷◌, ℕ, eqb, Float}
use Rattle.block.specs.Iterate.{at, word}
use Rattle.dsl.specs.declared.Adsr.{Adsr}
use Rattle.dsl.specs.declared.SuperWave.{SuperWave}
use Rattle.dsl.specs.declared.NoiseColor.{NoiseColor}
use Rattle.dsl.specs.declared.NoiseColor.TheVariants as color
use Rattle.dsl.specs.Options.{super_wave_of, noise_color_of}
use Rattle.control.specs.Moves.{bent}
use Rattle.sheet.specs.Record.{option_of, number_of}
use Rattle.sheet.specs.Value.{adsr_in}
use Rattle.layout.specs.Needs.{voices_of}
use Rattle.value.specs.Modulators.{release_start}
use Rattle.source.specs.Oscillators.{sine_of, square_of, saw_of, triangle_of, fm_of}
use Rattle.unpitched.specs.Others.{impact_width, impact_norm, impact_of, env_of, white_of, pink_of, brown_of, dust_chance, dust_decay, dust_of}
use Rattle.source.specs.declared.Triangle.{Triangle}
use Rattle.source.specs.declared.Fm.{Fm}
use Rattle.rng.specs.declared.Rng.{Rng}
use Rattle.unpitched.specs.declared.Pink.{Pink}
use Rattle.unpitched.specs.declared.Brown.{Brown}
use Rattle.unpitched.specs.declared.Dust.{Dust}
use Rattle.super_block.specs.Super.{super_of}
use Rattle.unit.specs.Own.{Own, Ugen, stateless, silent_unit}

-- ---- a state as its cells and registers hold it
abbrev pub triangle_at : List Float → Triangle
triangle_at cs = record { phase = at cs 0; tri = at cs 1 }

abbrev pub fm_at : List Float → Fm
fm_at cs = record { cph = at cs 0; mph = at cs 1 }

abbrev pub rng_at : List ℕ → Rng
rng_at rs = record { state = word rs 0 }

abbrev pub pink_at : Own → Pink
pink_at o = record { rng = rng_at o.1; poles = o.0 }

abbrev pub brown_at : Own → Brown
brown_at o = record { rng = rng_at o.1; last = at o.0 0 }

abbrev pub dust_at : Own → Dust
dust_at o = record { rng = rng_at o.1; y = at o.0 0 }

-- ---- oscillators: a phase, or two numbers
unfoldable pub sine_unit : Float → Ugen
sine_unit srf c vs x o = let r = sine_of (at vs 0) (bent c) srf (at o.0 0) in (r.0, (r.1 ∷ [], o.1))

unfoldable pub square_unit : Float → Ugen
square_unit srf c vs x o = let r = square_of (at vs 0) (at vs 1) (bent c) srf (at o.0 0) in (r.0, (r.1 ∷ [], o.1))

unfoldable pub saw_unit : Float → Ugen
saw_unit srf c vs x o = let r = saw_of (at vs 0) (bent c) srf (at o.0 0) in (r.0, (r.1 ∷ [], o.1))

unfoldable pub triangle_unit : Float → Ugen
triangle_unit srf c vs x o = let r = triangle_of (at vs 0) (bent c) srf (triangle_at o.0) in (r.0, (r.1.phase ∷ r.1.tri ∷ [], o.1))

unfoldable pub fm_unit : Float → Float → Ugen
fm_unit ratio srf c vs x o = let r = fm_of (at vs 0) (at vs 1) ratio (bent c) srf (fm_at o.0) in (r.0, (r.1.cph ∷ r.1.mph ∷ [], o.1))

-- n phases, then n ratios
unfoldable pub super_unit : SuperWave → ℕ → Float → Ugen
super_unit wave n srf c vs x o = let r = super_of wave n (at vs 0) (bent c) srf o.0 in (r.0, (r.1, o.1))

-- ---- by the position alone
abbrev pub impact_unit : ℕ → Float → Ugen
impact_unit w norm = stateless (λ c vs x. impact_of w norm c.position)

abbrev pub env_unit : Adsr → Float → Float → Ugen
env_unit e srf relStart = stateless (λ c vs x. env_of e srf relStart c.position)

-- ---- noises: a generator word, and the filter's cells
unfoldable pub white_unit : Ugen
white_unit c vs x o = let r = white_of (word o.1 0) in (r.0, (o.0, r.1 ∷ []))

unfoldable pub pink_unit : Ugen
pink_unit c vs x o = let r = pink_of (pink_at o) in (r.0, (r.1.poles, r.1.rng.state ∷ []))

unfoldable pub brown_unit : Ugen
brown_unit c vs x o = let r = brown_of (brown_at o) in (r.0, (r.1.last ∷ [], r.1.rng.state ∷ []))

abbrev pub noise_unit : NoiseColor → Ugen
noise_unit color.White = white_unit
noise_unit color.Pink = pink_unit
noise_unit color.Brown = brown_unit

unfoldable pub dust_unit : Float → Float → Ugen
dust_unit chance decay c vs x o = let r = dust_of chance decay (dust_at o) in (r.0, (r.1.y ∷ [], r.1.rng.state ∷ []))

-- ---- by kind: 1 Sine to 10 Dust, with the numbers of the record r. Other kinds are no sources; they play silence.
unfoldable pub source_unit : List ℕ → Float → ℕ → ℕ → Ugen
source_unit r srf n kind =
    let x = number_of r in
    let w = impact_width (x 0) srf in
    cond (eqb kind 1) (sine_unit srf)
    (cond (eqb kind 2) (square_unit srf)
    (cond (eqb kind 3) (saw_unit srf)
    (cond (eqb kind 4) (triangle_unit srf)
    (cond (eqb kind 5) (fm_unit (x 0) srf)
    (cond (eqb kind 6) (super_unit (super_wave_of (option_of r)) (voices_of r) srf)
    (cond (eqb kind 7) (impact_unit w (impact_norm (x 1) w))
    (cond (eqb kind 8) (env_unit (adsr_in r) srf (release_start n srf (x 3)))
    (cond (eqb kind 9) (noise_unit (noise_color_of (option_of r)))
    (cond (eqb kind 10) (dust_unit (dust_chance (x 0) srf) (dust_decay (x 1) srf))
    silent_unit)))))))))
