-- What the call `needs` answers: the lowest of checks 1 to 7 that applies, with zeros, or 0 and the needs of the built records.
use Rattle.std.specs.Prelude.{◌≡◌, refl, Bool, true, false, cond, List, ℕ, eqb, Result, Ok, Err}
use Rattle.std.proofs.Common.{sym, eqb-true, eq-eqb, ne_eqb}
use Rattle.sheet.specs.Record.{count_of}
use Rattle.sheet.specs.Checks.{check_of}
use Rattle.layout.specs.Needs.{cells_from, registers_from, scratch_from}
use Rattle.offsets.specs.declared.Needs.{Needs}
use Rattle.refusal.specs.declared.Refusal.{Refusal}
use Rattle.refusal.specs.Refusal.{number_of}
use Rattle.tables.specs.declared.Needed.{Needed}

abbrev pub refused : ℕ → Needed
refused r = record { refusal = r; cells = 0; registers = 0; scratch = 0 }

-- the answer for C, made of what the call returns
abbrev pub needed_by : Result Needs Refusal → Needed
needed_by (Ok n) = record { refusal = 0; cells = n.cells; registers = n.registers; scratch = n.scratch }
needed_by (Err e) = refused (number_of e)

abbrev pub wanted : List ℕ → Needed
wanted s = record { refusal = 0; cells = cells_from s (count_of s); registers = registers_from s (count_of s); scratch = scratch_from s (count_of s) }

unfoldable pub needed_of : List ℕ → Needed
needed_of s = cond (eqb (check_of s) 0) (wanted s) (refused (check_of s))

-- ---- LAWS
pub needed-check : (s : List ℕ) → (needed_of s).refusal ≡ check_of s
unfolding needed_of
needed-check s = go (eqb (check_of s) 0) refl
  where
    go : (b : Bool) → eqb (check_of s) 0 ≡ b → (cond b (wanted s) (refused (check_of s))).refusal ≡ check_of s
    go true h = sym (eqb-true (check_of s) 0 h)
    go false h = refl

pub needed-all : (s : List ℕ) → check_of s ≡ 0 → needed_of s ≡ wanted s
unfolding needed_of
needed-all s e = rw (eq-eqb (check_of s) 0 e)

pub needed-refused : (s : List ℕ) → (check_of s ≡ 0 → ⊥) → needed_of s ≡ refused (check_of s)
unfolding needed_of
needed-refused s d = rw (ne_eqb (check_of s) 0 d)
