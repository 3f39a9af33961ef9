use mathlib.Core.Path.{◌≡◌, sym, ◌∙◌, subst}
use mathlib.Core.Bool.{false, true≢false}
use lib.Dec.{T}
use lib.Ieee.{binary64, fits, is_nan, lt}
use Rattle.ieee.proofs.Tests.{zero-by-zero-64}
use Rattle.double.specs.Double.{zero}
use Rattle.det.specs.Log.{ln_of}
use Rattle.double.proofs.Tests.{minus-one-by-zero}
use Rattle.det.proofs.Parts.{not-below, scaled-normal}
use Rattle.det.proofs.ln.Goals as goal
use Rattle.det.proofs.ln.Goals.{Start, Else-x, then-is_nan, else-is_nan}

held : (c : Start) → T (fits binary64 c.args.x)
held c = subst T (sym c.well_formed.0.1) tt

-- no NaN, and not below 0
valid : (c : Else-x) → (is_nan c.args.x ≡ false) × (lt c.args.x zero ≡ false)
valid c =
    elim c.if-is_nan.branch [
      | then-is_nan w ↦ absurd (true≢false (sym w.if-is_nan.true ∙ sym w.value-is ∙ c.if-x.false))
      | else-is_nan w ↦ (sym c.is_nan.ensures.value ∙ w.if-is_nan.false, sym w.value-is ∙ c.if-x.false)
    ]

pub returns-then-x : goal.returns-then-x
unfolding ln_of
returns-then-x c =
    elim c.if-is_nan.branch [
      | then-is_nan w ↦ zero-by-zero-64 ∙ rw (sym c.is_nan.ensures.value ∙ w.if-is_nan.true)
      | else-is_nan w ↦ zero-by-zero-64 ∙ rw (sym c.is_nan.ensures.value ∙ w.if-is_nan.false, sym w.value-is ∙ c.if-x.true)
    ]

pub returns-then-x-2 : goal.returns-then-x-2
unfolding ln_of
returns-then-x-2 c = minus-one-by-zero ∙ rw ((valid c.before).0, (valid c.before).1, c.if-x-2.true)

pub ln_normal-requires : goal.ln_normal-requires
ln_normal-requires c =
    scaled-normal c.args.x (held (goal.at.ln_normal-requires c).Start) (valid (goal.at.ln_normal-requires c).Else-x).0 (valid (goal.at.ln_normal-requires c).Else-x).1 c.if-x-2.false c.if-x-3.true

pub returns-then-x-3 : goal.returns-then-x-3
unfolding ln_of
returns-then-x-3 c =
    let v = valid (goal.at.returns-then-x-3 c).Else-x in rw (c.ln_normal.ensures, v.0, v.1, c.if-x-2.false, c.if-x-3.true)

pub ln_normal-requires-else-x-3 : goal.ln_normal-requires-else-x-3
ln_normal-requires-else-x-3 c = not-below c.args.x (valid (goal.at.ln_normal-requires-else-x-3 c).Else-x).0 c.if-x-3.false

pub returns-else-x-3 : goal.returns-else-x-3
unfolding ln_of
returns-else-x-3 c =
    let v = valid (goal.at.returns-else-x-3 c).Else-x in rw (c.ln_normal-else-x-3.ensures, v.0, v.1, c.if-x-2.false, c.if-x-3.false)
