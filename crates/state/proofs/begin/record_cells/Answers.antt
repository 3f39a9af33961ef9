-- A record that is not built owns nothing.
use mathlib.Core.Path.{sym, ◌∙◌}
use Rattle.layout.specs.Counts.{cells-built}
use Rattle.layout.proofs.Roles.{is-built}
use Rattle.unit.specs.Start.{start_cells}
use Rattle.rings.specs.Parts.{not-brought}
use Rattle.state.proofs.begin.record_cells.Goals as goal

pub cells-requires : goal.cells-requires
cells-requires c =
    let R = c.requires.1 in
    let b = is-built _ (sym R.built_is ∙ c.if-row.true) in
    (c.requires.0, c.requires.2, R.kind_is, b, c.requires.3 ∙ cells-built c.args.plan.now.sheet.now c.args.i b)

pub returns-then-row : goal.returns-then-row
returns-then-row c = c.cells.ensures ∙ rw (← c.requires.1.built_is, c.if-row.true)

pub returns-else-row : goal.returns-else-row
returns-else-row c = not-brought _ _ (start_cells c.args.plan.now.sheet.now c.args.i) c.args.own.now (sym c.requires.1.built_is ∙ c.if-row.false) c.requires.3
