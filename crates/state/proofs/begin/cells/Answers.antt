use Prim.Native.Nat.{◌<◌}
use native.Mathlib.Omega.{arith}
use Rattle.sheet.specs.Record.{count_of}
use Rattle.machine.specs.Build.{brought_cells}
use Rattle.machine.proofs.Build.{brought-cells}
use Rattle.rings.specs.Parts.{cells_part, part_length, started-turn}
use Rattle.state.proofs.begin.cells.Goals as goal

pub record_cells-requires : goal.record_cells-requires
record_cells-requires c =
    let l = c.loop-i in
    let h : l.i < count_of c.args.plan.now.sheet.now = omega (arith, c.args.plan.now.made.passed.count, c.loop-i-test.true) in
    (c.requires.0, c.row-row.ensures, h, part_length (cells_part c.row-row.ensures h) l.cells (omega (arith, l.invariant.1, c.requires.1)))

pub loop-i-preserved : goal.loop-i-preserved
loop-i-preserved c =
    let l = c.loop-i in
    let s = c.args.plan.now.sheet.now in
    let w = started-turn (brought_cells s) (cells_part c.row-row.ensures (omega (arith, c.args.plan.now.made.passed.count, c.loop-i-test.true))) (brought-cells s) c.args.cells.now l.cells _
    l.invariant.1 c.requires.1 l.invariant.2 c.record_cells.ensures in
    (omega arith, w.0, w.1)

pub shape_of-cells : goal.shape_of-cells
shape_of-cells c = c.loop-i.invariant.1
