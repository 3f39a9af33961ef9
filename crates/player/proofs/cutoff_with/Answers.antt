use Rattle.std.proofs.Common.{◌∙◌, rules}
use Rattle.std.proofs.lemmas.Result.{err_from_is_err_and}
use Rattle.refusal.specs.Refusal.{answer-err, passed-on}
use Rattle.machine.proofs.Laws.{room-enough, room-passed}
use Rattle.calls.specs.Calls.{cuts-refused, cuts-all}
use Rattle.player.proofs.Prepared.{ready}
use Rattle.player.proofs.cutoff_with.Goals as goal

pub returns-in_err-p : goal.returns-in_err-p
returns-in_err-p g c =
    let p = err_from_is_err_and c.from_residual.result c.from_residual.ensures.1 in
    cuts-refused c.args.sheet.now c.args.x _ _ _ _ (answer-err p.1) (passed-on c.in_err-p.was p.1 p.2 ∙ c.prepare.ensures.answer)

pub plan-requires : goal.plan-requires
plan-requires g c = (search rules, (ready c.prepare.ensures c.in_ok-p.was).0)

pub set_cutoff-requires : goal.set_cutoff-requires
set_cutoff-requires g c =
    let r = room-enough c.args.sheet.now _ _ _ (room-passed c.args.sheet.now _ _ _ (ready c.prepare.ensures c.in_ok-p.was).1).1 in
    rw c.plan.ensures r.cells

pub returns : goal.returns
returns g c = cuts-all c.args.sheet.now c.args.x _ _ _ _ (ready c.prepare.ensures c.in_ok-p.was).1 (rw c.plan.ensures at c.set_cutoff.ensures)
