use Rattle.std.specs.Prelude.{◌-◌}
use Rattle.std.proofs.Common.{arith}
use Rattle.std.proofs.lemmas.List.{length-map}
use Rattle.sheet.specs.Numbers.{kind_number}
use Rattle.layout.specs.Tables.{flag, back_done, entry-of}
use Rattle.layout.proofs.Tables.{next-within, last-turn, lasts-turn, froms-turn}
use Rattle.roles.proofs.stages.Goals as goal
use Rattle.roles.proofs.stages.Goals.{then-last, else-last}

pub loop-j-preserved : goal.loop-j-preserved
loop-j-preserved c =
    let l = c.loop-j in
    let links = c.args.links.now in
    let k = entry-of kind_number links.kinds.now links.listed.kind_at _ (next-within links.listed (l.j - 1) (omega arith)) _ in
    let t = last-turn links.listed l.j c.loop-j-test.true (omega arith) l.lasts l.froms (omega arith) (omega arith) l.invariant.0 l.invariant.1 _ k _ c.trails-last.ensures in (
      lasts-turn links.listed l.j c.loop-j-test.true (omega arith) l.lasts l.froms (omega arith) (omega arith) l.invariant.0 l.invariant.1 _ t,
      froms-turn links.listed l.j c.loop-j-test.true (omega arith) l.lasts l.froms (omega arith) (omega arith) l.invariant.0 l.invariant.1 _ t _
          (elim c.if-last.branch [ then-last w ↦ rw (w.froms-is, w.if-last.true) | else-last w ↦ rw (w.froms-is, w.if-last.false) ]),
    )

pub returns : goal.returns
returns c =
    let l = c.loop-j in
    (back_done _ _ _ l.j (omega (arith, length-map l.lasts flag)) (omega arith) l.invariant.0, back_done _ _ _ l.j (omega arith) (omega arith) l.invariant.1)
