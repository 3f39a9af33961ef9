-- What a built record owns, and what plays on it.
use Rattle.std.specs.Prelude.{List, ℕ, Float}
use Rattle.float.specs.Single.{zero}
use Rattle.control.specs.declared.Controls.{Controls}

-- its cells and its registers
abbrev pub Own : Type 0
Own = List Float × List ℕ

-- A unit generator, for one sample: with the controls of the sample, the values of its chain and its input it takes what it owns, and gives a sample and what it owns then.
abbrev pub Ugen : Type 0
Ugen = Controls → List Float → Float → Own → Float × Own

-- one that owns nothing, or leaves it as it is
abbrev pub stateless : (Controls → List Float → Float → Float) → Ugen
stateless f c vs x o = (f c vs x, o)

abbrev pub silence : Float
silence = zero

abbrev pub silent_unit : Ugen
silent_unit = stateless (λ c vs x. silence)
