use Rattle.std.specs.Prelude.{◌≡◌, Ok}
use Rattle.std.proofs.Common.{sym, ap, ◌∙◌}
use Rattle.std.proofs.lemmas.Result.{err_from_is_err_and, IfOk-at_ok}
use Rattle.refusal.specs.Refusal.{answer_of, answer-err, passed-on}
use Rattle.tables.specs.declared.Measured.{Measured}
use Rattle.tables.specs.Answer.{refused, needed_by, needed_of, needed-refused}
use Rattle.player.proofs.needs_with.Goals as goal

pub returns-in_err-m : goal.returns-in_err-m
returns-in_err-m g c =
    let p = err_from_is_err_and c.from_residual.result c.from_residual.ensures.1 in
    let k = sym (ap answer_of p.1) ∙ passed-on c.in_err-m.was p.1 p.2 ∙ c.measure.ensures.answer in
    rw p.1 (ap refused k ∙ sym (needed-refused c.args.sheet.now (λ z. answer-err c.in_err-m.was (c.measure.ensures.answer ∙ z))))

pub returns : goal.returns
returns g c = IfOk-at_ok (λ (m : Measured). needed_by (Ok m.needs) ≡ needed_of c.args.sheet.now) c.in_ok-m.was c.measure.ensures.needs
