-- The values for one sample, on what they own: only Rand owns something. srf is the rate as an f32, n the sheet's length, and steps are the numbers of an Arp's Step records.
use Rattle.std.specs.Prelude.{List, [], ◌∷◌, ℕ, Float}
use Rattle.block.specs.Iterate.{at, word}
use Rattle.sheet.specs.declared.Value.{Value}
use Rattle.sheet.specs.declared.Value.TheVariants.{Const, Slide, Lfo, Arp, EnvMod, Rand}
use Rattle.rand_value.specs.declared.Rand.{Rand as Walk}
use Rattle.value.specs.Modulators.{slide_secs, slide_of, lfo_of, arp_of, release_start, env_mod_of}
use Rattle.rand_value.specs.Rand.{rand_increment, rand_out, rand_next}
use Rattle.unit.specs.Own.{Own, Ugen, stateless}

-- Rand's walk in its cells and its register
abbrev pub walk_of : Own → Walk
walk_of o = record { rng = record { state = word o.1 0 }; prev = at o.0 0; next = at o.0 1; phase = at o.0 2 }

abbrev pub walk_own : Walk → Own
walk_own w = (w.prev ∷ w.next ∷ w.phase ∷ [], w.rng.state ∷ [])

unfoldable pub rand_unit : Float → Float → Float → Ugen
rand_unit inc from to c vs x o = (rand_out (walk_of o), walk_own (rand_next inc from to (walk_of o)))

unfoldable pub value_unit : Value → List Float → Float → ℕ → Ugen
value_unit (Const x) steps srf n = stateless (λ c vs y. x)
value_unit (Slide v) steps srf n = stateless (λ c vs y. slide_of (record v { secs = slide_secs v.secs }) srf c.position)
value_unit (Lfo v) steps srf n = stateless (λ c vs y. lfo_of v srf c.position)
value_unit (Arp rate first) steps srf n = stateless (λ c vs y. arp_of steps rate srf c.position)
value_unit (EnvMod v) steps srf n = stateless (λ c vs y. env_mod_of v srf (release_start n srf v.env.r) c.position)
value_unit (Rand v) steps srf n = rand_unit (rand_increment v.rate srf) v.from v.to
