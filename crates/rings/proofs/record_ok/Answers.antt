-- A record that is not built has nothing to check; the part of one that is lies where its row says.
use mathlib.Core.Path.{sym, ◌∙◌}
use native.Mathlib.Omega.{arith}
use Rattle.layout.specs.Counts.{cells-built, registers-built}
use Rattle.layout.proofs.Roles.{is-built}
use Rattle.rings.specs.Parts.{cells_part, registers_part, part-is, part_length}
use Rattle.rings.specs.Rings.{not-true, not-false, record-checked}
use Rattle.rings.proofs.record_ok.Goals as goal

pub returns-then-not-row : goal.returns-then-not-row
returns-then-not-row c = rw (← c.row-row.ensures.built_is, not-true _ c.if-not-row.true)

pub own_ok-requires : goal.own_ok-requires
own_ok-requires c =
    let s = c.args.plan.now.sheet.now in
    let m = c.args.plan.now.made.passed in
    let R = c.row-row.ensures in
    let b = is-built _ (sym R.built_is ∙ not-false _ c.if-not-row.false) in (
      omega (arith, m.long),
      m.fast,
      R.kind_is,
      part_length (cells_part R c.requires.2) c.args.cells.now c.requires.0 ∙ cells-built s c.args.i b,
      part_length (registers_part R c.requires.2) c.args.regs.now c.requires.1 ∙ registers-built s c.args.i b,
    )

pub returns-in-Proc : goal.returns-in-Proc
returns-in-Proc c =
    let R = c.row-row.ensures in
    record-checked c.args.plan.now.sheet.now c.args.i c.args.cells.now _ c.args.regs.now _ _ (is-built _ (sym R.built_is ∙ not-false _ c.if-not-row.false))
    (part-is (cells_part R c.requires.2) c.args.cells.now) (part-is (registers_part R c.requires.2) c.args.regs.now) c.own_ok.ensures
