use Rattle.std.specs.Prelude.{ℕ}
use Rattle.std.proofs.Common.{subst}
use Rattle.std.proofs.lemmas.Result.{err_from_is_err_and}
use Rattle.control.specs.Moves.{pitch_moved, bend_moved}
use Rattle.refusal.specs.Refusal.{answer-ok, passed-on}
use Rattle.machine.specs.Machine.{cutoff}
use Rattle.calls.specs.Calls.{controls-err}
use Rattle.performance.specs.List.{Called, called-fill, called-controls, call-pitch, call-bend, called-cutoff}
use Rattle.performance.proofs.one_call.Goals as goal

pub returns-in-Fill : goal.returns-in-Fill
returns-in-Fill c =
    rw (c.in-Fill.is, rw c.in-Fill.is at c.requires) (called-fill _ c.args.c _ _ _ _ _ _ _ _ _ _ c.fill.auto.out c.fill.ensures)

pub returns-in-Pitch : goal.returns-in-Pitch
returns-in-Pitch c =
    rw c.in-Pitch.is (called-controls _ (λ d. pitch_moved d c.in-Pitch.scale c.in-Pitch.coefficient) _ (call-pitch _ _ _) c.args.c _ _ _ _ _ c.pitch.ensures)

pub returns-in-Bend : goal.returns-in-Bend
returns-in-Bend c = rw c.in-Bend.is (called-controls _ (λ d. bend_moved d c.in-Bend.x) _ (call-bend _ _) c.args.c _ _ _ _ _ c.bend.ensures)

pub returns-in_err-cutoff-in-Cutoff : goal.returns-in_err-cutoff-in-Cutoff
returns-in_err-cutoff-in-Cutoff c =
    let p = err_from_is_err_and c.from_residual.result c.from_residual.ensures.1 in
    rw (passed-on c.in_err-cutoff-in-Cutoff.was p.1 p.2, controls-err c.args.c p.1, c.in-Cutoff.is)
    (called-cutoff _ c.in-Cutoff.x c.args.c _ _ _ _ _ _ c.cutoff.ensures)

pub returns-in_ok-cutoff-in-Cutoff : goal.returns-in_ok-cutoff-in-Cutoff
returns-in_ok-cutoff-in-Cutoff c =
    let a = c.args in
    rw c.in-Cutoff.is
    (subst (λ (n : ℕ). Called a.sheet.now (cutoff c.in-Cutoff.x) a.c a.out.now a.cells.now a.regs.now a.scr.now n a.c a.out.now c.cutoff.new.cells a.regs.now a.scr.now)
    (answer-ok c.in_ok-cutoff-in-Cutoff.was)
    (called-cutoff _ c.in-Cutoff.x a.c _ _ _ _ _ _ c.cutoff.ensures))
