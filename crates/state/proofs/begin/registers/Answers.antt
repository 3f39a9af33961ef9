use Prim.Native.Nat.{◌<◌}
use native.Mathlib.Omega.{arith}
use Rattle.sheet.specs.Record.{count_of}
use Rattle.machine.specs.Build.{brought_registers}
use Rattle.machine.proofs.Build.{brought-registers}
use Rattle.rings.specs.Parts.{registers_part, part_length, started-turn}
use Rattle.state.proofs.begin.registers.Goals as goal

pub record_registers-requires : goal.record_registers-requires
record_registers-requires c =
    let l = c.loop-i in
    let h : l.i < count_of c.args.plan.now.sheet.now = omega (arith, c.args.plan.now.made.passed.count, c.loop-i-test.true) in
    (c.row-row.ensures, c.requires.0.at l.i h, h, part_length (registers_part c.row-row.ensures h) l.regs (omega (arith, l.invariant.1, c.requires.1)))

pub loop-i-preserved : goal.loop-i-preserved
loop-i-preserved c =
    let l = c.loop-i in
    let s = c.args.plan.now.sheet.now in
    let w = started-turn (brought_registers s) (registers_part c.row-row.ensures (omega (arith, c.args.plan.now.made.passed.count, c.loop-i-test.true))) (brought-registers s) c.args.regs.now l.regs _
    l.invariant.1 c.requires.1 l.invariant.2 c.record_registers.ensures in
    (omega arith, w.0, w.1)

pub shape_of-regs : goal.shape_of-regs
shape_of-regs c = c.loop-i.invariant.1
