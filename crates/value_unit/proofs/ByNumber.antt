-- Laws of values by their kinds' numbers, and of cells that are stored one by one. No function asks for them since a kind is an enum and cells are copied whole;
-- they stand since the definitions are over numbers and lists.
use Rattle.std.specs.Prelude.{◌≡◌, List, [], ◌∷◌, ℕ, ◌≤◌, length, set, Float}
use Rattle.std.proofs.Common.{sym, ap, ◌∙◌, arith}
use Rattle.std.proofs.Math.Decide.{ℕ_discrete}
use borrow.Author.Tests.{le-ltb}
use Rattle.tree.specs.Block.{tab}
use Rattle.tree.specs.Lists.{written}
use Rattle.sheet.specs.Record.{length_of, kind_of, first_of, record_at, kind}
use Rattle.sheet.specs.Value.{value_as, value_of}
use Rattle.sheet.specs.declared.Value.{Value}
use Rattle.sheet.specs.declared.Value.TheVariants.{Const, Slide, Lfo, Arp, EnvMod, Rand}
use Rattle.unit.specs.Values.{value_unit}
use Rattle.unit.specs.Unit.{steps_of, srf, kind_unit}
use Rattle.unit.specs.Block.{Lent}

-- the kind of a value's case
abbrev pub kind_in : Value → ℕ
kind_in (Const x) = 41
kind_in (Slide slide) = 42
kind_in (Lfo lfo) = 43
kind_in (Arp rate first) = 44
kind_in (EnvMod env) = 45
kind_in (Rand rand) = 46

pub kind-in : (r : List ℕ) → 41 ≤ kind_of r → kind_of r ≤ 46 → kind_of r ≡ kind_in (value_of r)
unfolding value_as
kind-in r h l = elim (ℕ_discrete (kind_of r) 42) [
  | yes q ↦ rw q
  | no d2 ↦ elim (ℕ_discrete (kind_of r) 43) [
    | yes q ↦ rw q
    | no d3 ↦ elim (ℕ_discrete (kind_of r) 44) [
      | yes q ↦ rw q
      | no d4 ↦ elim (ℕ_discrete (kind_of r) 45) [
        | yes q ↦ rw q
        | no d5 ↦ elim (ℕ_discrete (kind_of r) 46) [
          | yes q ↦ rw q
          | no d6 ↦ let q : kind_of r ≡ 41 = omega arith in rw q
        ]
      ]
    ]
  ]
]

-- the case x that was read from the part of the sheet at a record
pub told : {r part : List ℕ} {x v : Value} → part ≡ r → x ≡ value_of part → x ≡ v → value_of r ≡ v
told p e f = ap value_of (sym p) ∙ sym e ∙ f

pub value_is : {s : List ℕ} {i k nc nr : ℕ} → Lent s i k nc nr → 41 ≤ k → {v : Value} → value_of (record_at s i) ≡ v → kind_unit s i ≡ value_unit v (steps_of s i) (srf s) (length_of s)
unfolding kind_unit
value_is {s} {i} l h e = rw (le-ltb (kind s i) 21 (omega (arith, l.kind_is)), le-ltb (kind s i) 41 (omega (arith, l.kind_is)), e)

pub told-kind : {s : List ℕ} {i k nc nr : ℕ} → Lent s i k nc nr → 41 ≤ k → {v : Value} → k ≤ 46 → value_of (record_at s i) ≡ v → k ≡ kind_in v
told-kind {s} {i} l h g e = l.kind_is ∙ kind-in (record_at s i) (omega (arith, l.kind_is)) (omega (arith, l.kind_is)) ∙ ap kind_in e

-- where an Arp's chain begins
pub arp-first : (r : List ℕ) {rate : Float} {f : ℕ} → kind_of r ≡ 44 → value_of r ≡ Arp rate f → f ≡ first_of r
unfolding value_as
arp-first r k e = let q = rw k at e in cc

-- ---- cells as they are stored
pub three-stored : {A : Type 0} (l : List A) {x y z : A} → length l ≡ 3 → set (set (set l 0 x) 1 y) 2 z ≡ x ∷ y ∷ z ∷ []
unfolding tab
three-stored l {x} {y} {z} e = ap (λ l. set (set (set l 0 x) 1 y) 2 z) (written x 3 l e)
