-- What checks 1 to 8 answer, and the tables that they leave where none applies.
use Rattle.std.specs.Prelude.{◌≡◌, refl, Bool, cond, ◌&&◌, List, ◌≢◌, ℕ, leb, Result}
use Rattle.std.specs.Result.{IfOk}
use Rattle.std.proofs.Common.{◌∙◌, ne_eqb}
use Rattle.refusal.specs.declared.Refusal.{Refusal}
use Rattle.refusal.specs.Refusal.{answer_of}
use Rattle.sheet.specs.Record.{count_of}
use Rattle.sheet.specs.Checks.{check_of, lowest}
use Rattle.layout.specs.Needs.{cells_from, registers_from, scratch_from}
use Rattle.machine.specs.Machine.{room_check}
use Rattle.tables.specs.declared.Tables.{Tables}
use Rattle.tables.specs.Tables.{Made}
use Rattle.prepare.specs.declared.Ready.{Ready}

pub record Prepared {N M : ℕ} (s : List ℕ) (nc nr ns : ℕ) (t : Tables N M) (r : Result Ready Refusal) : Type 0 where
  pub answer : answer_of r ≡ room_check s nc nr ns
  pub made : IfOk r (λ y. Made s y.count t)
  pub scratch : IfOk r (λ y. y.scratch ≡ scratch_from s (count_of s))

-- room by the numbers that the tables end with
pub room-checked : (s : List ℕ) (nc nr ns c r x : ℕ) → check_of s ≡ 0 → c ≡ cells_from s (count_of s) → r ≡ registers_from s (count_of s) → x ≡ scratch_from s (count_of s) → (b : Bool)
    → (leb c nc && leb r nr && leb x ns) ≡ b → room_check s nc nr ns ≡ cond b 0 8
unfolding room_check lowest
room-checked s nc nr ns c r x e p q t b h = rw (e, ← p, ← q, ← t, h) (go b)
  where
    go : (b : Bool) → ◌≡◌ {A = ℕ} (cond b 0 8) (cond b 0 8)
    go b = refl

pub sheet-checked : (s : List ℕ) (nc nr ns k : ℕ) → k ≡ check_of s → k ≢ 0 → k ≡ room_check s nc nr ns
unfolding room_check
sheet-checked s nc nr ns k e d = e ∙ rw (ne_eqb (check_of s) 0 (λ z. d (e ∙ z)))
