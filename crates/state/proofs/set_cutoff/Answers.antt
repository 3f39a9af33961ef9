use Rattle.std.specs.Prelude.{leb}
use Rattle.std.proofs.Common.{sym, ap, ◌∙◌, ◌+◌, length, leb-true, arith}
use Rattle.sheet.specs.Record.{count_of}
use Rattle.sheet.specs.Numbers.{kind_number}
use Rattle.sheet.specs.Laws.{both}
use Rattle.layout.proofs.Roles.{is-built}
use Rattle.machine.proofs.Laws.{scaled-length}
use Rattle.rings.specs.Parts.{scaled-turn, filter-room}
use Rattle.state.proofs.set_cutoff.Goals as goal

pub scale-requires : goal.scale-requires
scale-requires c =
    let l = c.loop-i in
    let R = c.row.ensures in
    let k = kind_number c.row.result.kind in
    λ b q. let f = both (leb 22 k) (leb k 28) q in
    filter-room c.args.plan.now.sheet.now l.i (count_of c.args.plan.now.sheet.now) k _ (omega (arith, c.args.plan.now.made.passed.count, c.loop-i-test.true))
    (is-built _ (sym R.built_is ∙ b)) R.kind_is R.cells_is (length l.cells) (omega (arith, l.invariant.1, c.requires)) (leb-true 22 k f.0) (leb-true k 28 f.1)

pub loop-i-preserved : goal.loop-i-preserved
loop-i-preserved c =
    let l = c.loop-i in
    let s = c.args.plan.now.sheet.now in
    let R = c.row.ensures in
    let w = scaled-turn s c.args.x l.i _ _ _ c.args.cells.now l.cells _ R.built_is R.kind_is R.cells_is l.invariant.2 c.scale.ensures in
    (omega arith, ap length w ∙ scaled-length s c.args.x (l.i + 1) c.args.cells.now, w)

pub shape_of-cells : goal.shape_of-cells
shape_of-cells c = c.loop-i.invariant.1
