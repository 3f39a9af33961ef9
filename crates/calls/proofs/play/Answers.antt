use Rattle.std.specs.Prelude.{◌≡◌, true, length}
use Rattle.std.proofs.Common.{sym, ◌∙◌, arith}
use Rattle.control.specs.Moves.{left_for}
use Rattle.machine.specs.Machine.{sound_ok}
use Rattle.machine.proofs.Laws.{room-enough, room-passed}
use Rattle.calls.specs.Calls.{fills-none, fills-all, fills-late, fills-unsound, sound-of}
use Rattle.calls.proofs.play.Given as given
use Rattle.calls.proofs.play.Goals as goal
use Rattle.calls.proofs.play.Goals.{Else-not-sound_ok, Else-not-positions_left}

-- check 9 passed, and check 10
sound : (g : given.Over) (c : Else-not-sound_ok g) → sound_ok c.args.sheet.now c.args.c c.args.cells.now c.args.regs.now ≡ true
sound g c = sym (rw c.plan-plan.ensures at c.sound_ok.ensures) ∙ c.if-not-sound_ok.false

left : (g : given.Over) (c : Else-not-positions_left g) → left_for c.args.c.position (length c.args.out.now) ≡ true
left g c = sym c.positions_left.ensures ∙ c.if-not-positions_left.false

pub returns-then-n-eq0 : goal.returns-then-n-eq0
returns-then-n-eq0 g c =
    let d = goal.at.returns-then-n-eq0 g c in
    fills-none c.args.sheet.now c.args.c c.args.out.now c.args.cells.now c.args.regs.now c.args.scr.now c.requires.1 (sound g d.Else-not-sound_ok) (left g d.Else-not-positions_left) c.if-n-eq0.true

pub sound_ok-requires : goal.sound_ok-requires
sound_ok-requires g c =
    let r = room-enough c.args.sheet.now _ _ _ (room-passed c.args.sheet.now _ _ _ c.requires.1).1 in
    rw c.plan-plan.ensures (r.cells, r.registers)

pub run-r-requires : goal.run-r-requires
run-r-requires g c =
    let d = goal.at.run-r-requires g c in
    let r = room-enough c.args.sheet.now (length c.args.cells.now) (length c.args.regs.now) (length c.args.scr.now) (room-passed c.args.sheet.now _ _ _ c.requires.1).1 in
    rw c.plan-plan.ensures (
      r.scratch,
      sound-of c.args.sheet.now c.args.c c.args.cells.now c.args.regs.now (length c.args.scr.now) c.requires.1 (sound g d.Else-not-sound_ok),
      left g d.Else-not-positions_left,
    )

pub clear-requires : goal.clear-requires
clear-requires g c =
    let r = room-enough c.args.sheet.now (length c.args.cells.now) (length c.args.regs.now) (length c.args.scr.now) (room-passed c.args.sheet.now _ _ _ c.requires.1).1 in
    omega (arith, c.requires.2, r.scratch, c.run-r.auto.scr)

pub returns-then-not-sound_ok : goal.returns-then-not-sound_ok
returns-then-not-sound_ok g c =
    fills-unsound c.args.sheet.now c.args.c c.args.out.now c.args.cells.now c.args.regs.now c.args.scr.now c.requires.1 (sym (rw c.plan-plan.ensures at c.sound_ok.ensures) ∙ c.if-not-sound_ok.true)

pub returns-then-not-positions_left : goal.returns-then-not-positions_left
returns-then-not-positions_left g c =
    let d = goal.at.returns-then-not-positions_left g c in
    fills-late c.args.sheet.now c.args.c c.args.out.now c.args.cells.now c.args.regs.now c.args.scr.now c.requires.1 (sound g d.Else-not-sound_ok) (sym c.positions_left.ensures ∙ c.if-not-positions_left.true)

pub returns : goal.returns
returns g c =
    let d = goal.at.returns g c in
    fills-all c.args.sheet.now c.args.c c.args.out.now c.args.cells.now c.args.regs.now c.args.scr.now c.requires.1 (sound g d.Else-not-sound_ok) (left g d.Else-not-positions_left) _ _ _ _ _ _ c.if-n-eq0.false (rw c.plan-plan.ensures at c.run-r.ensures) (rw c.requires.2 at c.clear.ensures)
