-- The voice of an accepted sheet is a patch in the sense of the theory, and its units keep check 9.
use Rattle.std.specs.Prelude.{◌≡◌, refl, true, List, ◌≢◌, ℕ, ◌<◌, Float}
use Rattle.std.proofs.Common.{sym, ◌∙◌}
use Rattle.tree.specs.Flat.{Fills}
use Rattle.tree.specs.Forest.{Forest}
use Rattle.block.specs.Patch.{Valid}
use Rattle.control.specs.declared.Controls.{Controls}
use Rattle.sheet.specs.Record.{count_of, kind}
use Rattle.sheet.specs.Kinds.{Chain, empty, values, nodes, modes, steps, row_of}
use Rattle.sheet.specs.Checks.{check_of}
use Rattle.layout.specs.Built.{role, is_built, begin, after}
use Rattle.layout.specs.Counts.{layout_of, rows_of}
use Rattle.layout.proofs.Laws.{playable}
use Rattle.unit.specs.Own.{Own}
use Rattle.unit.specs.Unit.{unit_of}
use Rattle.unit.specs.Voice.{playing, entered, voice}
use Rattle.unit.specs.State.{own_ok}
use Rattle.unit.specs.Laws.{unit-fits, unit-keeps, unit_ok}

-- check 9 does not apply to what record j owns, if it is built
abbrev pub OwnSound : List ℕ → ℕ → Own → Type 0
OwnSound s j o = is_built (role s j) ≡ true → own_ok s j o ≡ true

-- a sample of a record's unit keeps its own part sound
abbrev pub UnitsKeep : List ℕ → Type 0
UnitsKeep s = (j : ℕ) → j < count_of s → (t : Controls) (vs : List Float) (x : Float) (o : Own) → Fills (layout_of s) j o → OwnSound s j o → OwnSound s j (unit_of s j t vs x o).1

pub units-keep : (s : List ℕ) → check_of s ≡ 0 → UnitsKeep s
units-keep s e j h t vs x o f g b = unit_ok s e j t vs x o (g b)

playing-is : (c : Chain) (b : ℕ) → playing c b ≢ 0 → playing c b ≡ b
playing-is empty b d = refl
playing-is (values n) b d = refl
playing-is nodes b d = refl
playing-is modes b d = absurd (d refl)
playing-is steps b d = absurd (d refl)

entered-is : (s : List ℕ) (i : ℕ) → entered s i ≢ 0 → entered s i ≡ begin s i
entered-is s i d = playing-is (row_of (kind s i)).chain (begin s i) d

module _ (s : List ℕ) (e : check_of s ≡ 0) where
  entered-forest : Forest (entered s) (after s)
  entered-forest =
      let f = (playable s e).forest in
      record {
        first_up = λ i d. let q = entered-is s i d in rw q (f.first_up i (λ z. d (q ∙ z)));
        next_up = f.next_up;
        first_one = λ i j d p. let q = entered-is s i d in f.first_one i j (λ z. d (q ∙ z)) (sym q ∙ p ∙ entered-is s j (λ z. d (p ∙ z)));
        next_one = f.next_one;
        not_both = λ i j d p. let q = entered-is s i d in f.not_both i j (λ z. d (q ∙ z)) (sym q ∙ p);
      }

  pub voice-valid : Valid (voice s)
  voice-valid = record {
    some = (playable s e).some;
    forest = entered-forest;
    first_in = λ i d. let q = entered-is s i d in rw q ((playable s e).begin_low i (λ z. d (q ∙ z)));
    next_in = (playable s e).after_low;
    rows = rows_of s;
    fits = λ j t vs x p h. unit-fits s e j t vs x p h.0 h.1;
    keeps = λ j t vs x p h. unit-keeps s e j t vs x p h.0 h.1;
  }
