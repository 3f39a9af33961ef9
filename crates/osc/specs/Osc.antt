-- Oscillators: the shapes over a phase of one period, and the PolyBLEP residual (Välimäki and Huovilainen's two-point polynomial for a band-limited step).
use Rattle.std.specs.Prelude.{cond, Float}
use Rattle.std.specs.Float.Ieee.{neg, lt, le}
use Rattle.float.specs.Single.{◌⊕◌, ◌⊖◌, ◌⊗◌, ◌⊘◌, zero, half, one, two, three, four, tau}
use Rattle.dsp.specs.Math.{sine}
use Rattle.dsl.specs.declared.Shape.{Shape}
use Rattle.dsl.specs.declared.Shape.TheVariants.{Sine, Square, Triangle, Saw}

-- What a step at phase 0 is mended by, at phase t with dt a sample: within a sample after the step, within a sample before it, else nothing
unfoldable pub poly_blep : Float → Float → Float
poly_blep t dt =
    let u = t ⊘ dt in
    let v = (t ⊖ one) ⊘ dt in
    cond (le dt zero) zero (cond (lt t dt) (u ⊕ u ⊖ u ⊗ u ⊖ one) (cond (lt (one ⊖ dt) t) (v ⊗ v ⊕ v ⊕ v ⊕ one) zero))

-- 1 in the first half of the period and -1 in the second
abbrev pub square_at : Float → Float
square_at phase = cond (lt phase half) one (neg one)

unfoldable pub osc_of : Shape → Float → Float
osc_of Sine phase = sine (tau ⊗ phase)
osc_of Square phase = square_at phase
osc_of Triangle phase = cond (lt phase half) (four ⊗ phase ⊖ one) (three ⊖ four ⊗ phase)
osc_of Saw phase = two ⊗ phase ⊖ one
