use Rattle.std.proofs.Common.{arith}
use Rattle.machine.proofs.Laws.{room-enough, room-passed}
use Rattle.calls.specs.Calls.{builds-all}
use Rattle.calls.proofs.begin.Goals as goal

pub paths-requires : goal.paths-requires
paths-requires g c = omega (arith, c.links.ensures.1, c.requires.0.planned.passed.small)

pub start_all-requires : goal.start_all-requires
start_all-requires g c =
    let m = c.requires.0 in
    let r = room-enough c.args.sheet.now _ _ _ (room-passed c.args.sheet.now _ _ _ c.requires.1).1 in
    rw c.plan-plan.ensures (rw (← m.planned.passed.count) m.first_at, rw (← m.planned.passed.count) (rw (c.links.ensures.0, c.links.ensures.1) at c.paths.ensures), r.cells, r.registers)

pub clear-requires : goal.clear-requires
clear-requires g c =
    let r = room-enough c.args.sheet.now _ _ _ (room-passed c.args.sheet.now _ _ _ c.requires.1).1 in
    omega (arith, c.requires.2, r.scratch)

pub returns : goal.returns
returns g c =
    builds-all c.args.sheet.now c.args.c _ _ _ c.requires.1 _ _ _ _ c.fresh.ensures (rw c.plan-plan.ensures at c.start_all.ensures.0) (rw c.plan-plan.ensures at c.start_all.ensures.1) (rw c.requires.2 at c.clear.ensures)
