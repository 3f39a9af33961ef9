-- What a call knows where the checks before it have passed.
use Rattle.std.specs.Prelude.{◌≡◌, List, ℕ, Ok, Result}
use Rattle.std.proofs.Common.{sym, ◌∙◌}
use Rattle.std.proofs.lemmas.Result.{IfOk-at_ok}
use Rattle.refusal.specs.Refusal.{answer-ok}
use Rattle.refusal.specs.declared.Refusal.{Refusal}
use Rattle.sheet.specs.Record.{count_of}
use Rattle.layout.specs.Needs.{scratch_from}
use Rattle.machine.specs.Machine.{room_check}
use Rattle.tables.specs.Tables.{Made}
use Rattle.tables.specs.declared.Tables.{Tables}
use Rattle.prepare.specs.Prepared.{Prepared}
use Rattle.prepare.specs.declared.Ready.{Ready}

pub ready : {N M : ℕ} {s : List ℕ} {nc nr ns : ℕ} {t : Tables N M} {r : Result Ready Refusal} {y : Ready} → Prepared s nc nr ns t r → r ≡ Ok y
    → Made s y.count t × (room_check s nc nr ns ≡ 0) × (y.scratch ≡ scratch_from s (count_of s))
ready {s = s} {t = t} p e = (
  IfOk-at_ok (λ (y : Ready). Made s y.count t) e p.made,
  sym p.answer ∙ answer-ok e,
  IfOk-at_ok (λ (y : Ready). y.scratch ≡ scratch_from s (count_of s)) e p.scratch,
)
