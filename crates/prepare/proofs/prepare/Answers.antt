use Rattle.std.specs.Prelude.{◌≡◌, true, false, Ok}
use Rattle.std.proofs.Common.{sym, ap, ◌∙◌}
use Rattle.std.proofs.lemmas.Result.{err_from_is_err_and, IfOk-from_err, IfOk-at_ok}
use Rattle.refusal.specs.Refusal.{answer-ok, answer-err, passed-on}
use Rattle.sheet.specs.Checks.{check_of}
use Rattle.tables.specs.declared.Needed.{Needed}
use Rattle.tables.specs.declared.Measured.{Measured}
use Rattle.tables.specs.Answer.{needed_by, needed_of, wanted, needed-all}
use Rattle.tables.specs.Tables.{Made}
use Rattle.prepare.specs.Prepared.{room-checked, sheet-checked}
use Rattle.prepare.proofs.prepare.Given as given
use Rattle.prepare.proofs.prepare.Goals as goal
use Rattle.prepare.proofs.prepare.Goals.{In_ok-m}

-- what an accepted sheet needs
passes : (g : given.Over) (c : In_ok-m g) → check_of c.args.sheet.now ≡ 0
passes g c = sym c.measure.ensures.answer ∙ answer-ok c.in_ok-m.was

needs : (g : given.Over) (c : In_ok-m g) → needed_by (Ok c.in_ok-m.m.needs) ≡ wanted c.args.sheet.now
needs g c = IfOk-at_ok (λ (m : Measured). needed_by (Ok m.needs) ≡ needed_of c.args.sheet.now) c.in_ok-m.was c.measure.ensures.needs ∙ needed-all c.args.sheet.now (passes g c)

pub returns-in_err-m : goal.returns-in_err-m
returns-in_err-m g c =
    let p = err_from_is_err_and c.from_residual.result c.from_residual.ensures.1 in
    record {
      answer = passed-on c.in_err-m.was p.1 p.2 ∙ sheet-checked c.args.sheet.now _ _ _ _ c.measure.ensures.answer (answer-err c.in_err-m.was);
      made = IfOk-from_err _ _ c.from_residual.ensures.0;
      scratch = IfOk-from_err _ _ c.from_residual.ensures.0;
    }

pub returns-then-not-room_ok : goal.returns-then-not-room_ok
returns-then-not-room_ok g c =
    let d = (goal.at.returns-then-not-room_ok g c).In_ok-m in
    let w = needs g d in
    record {
      answer = sym (room-checked c.args.sheet.now _ _ _ _ _ _ (passes g d) (ap (λ (r : Needed). r.cells) w) (ap (λ (r : Needed). r.registers) w) (ap (λ (r : Needed). r.scratch) w) false (sym c.room_ok.ensures ∙ c.if-not-room_ok.true));
      made = tt;
      scratch = tt;
    }

pub returns : goal.returns
returns g c =
    let d = (goal.at.returns g c).In_ok-m in
    let w = needs g d in
    record {
      answer = sym (room-checked c.args.sheet.now _ _ _ _ _ _ (passes g d) (ap (λ (r : Needed). r.cells) w) (ap (λ (r : Needed). r.registers) w) (ap (λ (r : Needed). r.scratch) w) true (sym c.room_ok.ensures ∙ c.if-not-room_ok.false));
      made = IfOk-at_ok (λ (m : Measured). Made c.args.sheet.now m.count c.measure.new.t) c.in_ok-m.was c.measure.ensures.made;
      scratch = ap (λ (r : Needed). r.scratch) w;
    }
