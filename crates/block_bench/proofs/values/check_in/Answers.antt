use Rattle.std.proofs.Common.{sym, ◌∙◌, arith, length-take-le}
use Rattle.refusal.specs.Refusal.{answer-err}
use Rattle.layout.specs.Good.{good}
use Rattle.block_bench.proofs.values.check_in.Goals as goal

pub check-outcome-requires : goal.check-outcome-requires
check-outcome-requires c =
    let q = length-take-le c.min-n.result c.args.table.now (omega (arith, c.min-n.ensures)) in
    (record { enough = λ e h. omega (arith, q, c.min-n.ensures, c.requires.0.enough e h) }, omega (arith, q, c.min-n.ensures), omega (arith, q, c.min-n.ensures))

pub returns-in-Err-Length : goal.returns-in-Err-Length
returns-in-Err-Length c = record {
  answer = c.answer.ensures ∙ c.check-outcome.ensures.answer;
  tables = λ z. absurd (answer-err c.in-Err-Length.is (sym c.answer.ensures ∙ z));
}

pub copy_kinds-requires : goal.copy_kinds-requires
copy_kinds-requires c = (omega (arith, c.min.ensures), omega (arith, c.min.ensures, c.min-n.ensures), omega (arith, c.min.ensures, c.min-n.ensures))

pub returns : goal.returns
returns c = record {
  answer = c.answer-2.ensures ∙ c.check-outcome.ensures.answer;
  tables = λ z.
      let o = sym c.answer-2.ensures ∙ z in
      let g = good c.args.sheet.now (sym c.check-outcome.ensures.answer ∙ o) in
      let t = c.check-outcome.ensures.tables o in
      record {
        kind_at = λ i h. c.copy_kinds.ensures.is i (omega (arith, h, g.long, g.small, c.requires.0.enough g.long g.small, c.min.ensures, c.min-n.ensures));
        first_at = t.first_at;
        next_at = t.next_at;
      };
}
