use Rattle.std.proofs.Common.{◌∙◌, rules}
use Rattle.std.proofs.lemmas.Result.{err_from_is_err_and}
use Rattle.refusal.specs.Refusal.{answer-err, passed-on}
use Rattle.calls.specs.Calls.{controls-err, fills-room}
use Rattle.player.proofs.Prepared.{ready}
use Rattle.player.proofs.fill_with.Goals as goal

pub returns-in_err-p : goal.returns-in_err-p
returns-in_err-p g c =
    let p = err_from_is_err_and c.from_residual.result c.from_residual.ensures.1 in
    rw (controls-err c.args.c p.1) (fills-room c.args.sheet.now c.args.c _ _ _ _ _ (answer-err p.1) (passed-on c.in_err-p.was p.1 p.2 ∙ c.prepare.ensures.answer))

pub play-requires : goal.play-requires
play-requires g c = (search rules, ready c.prepare.ensures c.in_ok-p.was)

pub returns : goal.returns
returns g c = c.play.ensures
