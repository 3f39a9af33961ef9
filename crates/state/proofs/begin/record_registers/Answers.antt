-- A record that is not built owns nothing.
use mathlib.Core.Path.{sym, ◌∙◌}
use native.Mathlib.Omega.{arith}
use Rattle.layout.specs.Counts.{registers-built}
use Rattle.layout.proofs.Roles.{is-built}
use Rattle.unit.specs.Start.{start_registers}
use Rattle.rings.specs.Parts.{not-brought}
use Rattle.state.proofs.begin.record_registers.Goals as goal

pub registers-requires : goal.registers-requires
registers-requires c =
    let m = c.args.plan.now.made in
    let R = c.requires.0 in
    let b = is-built _ (sym R.built_is ∙ c.if-row.true) in
    (omega (arith, m.passed.long, m.passed.count, c.requires.2), R.kind_is, c.requires.1, b, c.requires.3 ∙ registers-built c.args.plan.now.sheet.now c.args.i b)

pub returns-then-row : goal.returns-then-row
returns-then-row c = c.registers.ensures ∙ rw (← c.requires.0.built_is, c.if-row.true)

pub returns-else-row : goal.returns-else-row
returns-else-row c = not-brought _ _ (start_registers c.args.plan.now.sheet.now c.args.i) c.args.own.now (sym c.requires.0.built_is ∙ c.if-row.false) c.requires.3
