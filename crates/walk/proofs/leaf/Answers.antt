use mathlib.Core.Path.{sym, ◌∙◌}
use native.Mathlib.Omega.{arith}
use Rattle.sheet.specs.Record.{kind}
use Rattle.layout.specs.Built.{role}
use Rattle.layout.proofs.Roles.{is-built}
use Rattle.units.specs.Values.{node-unit}
use Rattle.walk.specs.Walk.{voiced, parts-of, leaf-is}
use Rattle.walk.specs.Leaf.{leafed-silent}
use Rattle.walk.proofs.leaf.Goals as goal

pub returns-else-row : goal.returns-else-row
returns-else-row c =
    let S = c.args.plan.now.sheet.now in
    let i = c.args.i in
    leafed-silent (voiced c.args.plan.now.made.passed) i c.requires.2 (leaf-is S i c.requires.4 c.requires.5) (sym c.row-row.ensures.built_is ∙ c.if-row.false) c.args.c _ _ _ _ c.requires.1 c.fill_block.ensures

pub values-requires : goal.values-requires
values-requires c =
    let S = c.args.plan.now.sheet.now in
    let i = c.args.i in
    let R = c.requires.0 in
    let b = is-built (role S i) (sym c.row-row.ensures.built_is ∙ c.if-row.true) in
    (record { owned = record { inside = c.requires.2; built_is = b }; fold_not = c.requires.4; chain_not = c.requires.5; same = R.second_buffer ∙ sym R.first_buffer; early = omega (arith, R.early, R.first_buffer) }, c.requires.1)

pub own-requires : goal.own-requires
own-requires c =
    let S = c.args.plan.now.sheet.now in
    let i = c.args.i in
    let R = c.requires.0 in
    let b = is-built (role S i) (sym c.row-row.ensures.built_is ∙ c.if-row.true) in (
      record {
        owned = record { inside = c.requires.2; built_is = b };
        unit_is = node-unit (kind S i) c.requires.3.node c.requires.4 c.requires.5;
        pitched = R.pitched;
        early = R.early;
        first_long = omega (arith, R.first_buffer, c.values.auto.v);
        second_long = omega (arith, R.second_buffer, c.values.auto.w);
      },
      c.values.ensures.sound,
      parts-of (record { inside = c.requires.2; built_is = b }) c.row-row.ensures c.values.ensures.sound,
    )

pub returns-then-row : goal.returns-then-row
returns-then-row c = c.values.ensures.then _ _ _ _ (sym c.requires.0.first_buffer) c.own.ensures
