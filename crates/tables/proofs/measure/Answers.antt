use Rattle.std.specs.Prelude.{◌≡◌, refl, List, ℕ, ◌≤◌}
use Rattle.std.proofs.Common.{sym, ap, ◌∙◌, arith}
use Rattle.refusal.specs.Refusal.{answer-ok}
use Rattle.sheet.specs.Record.{count_of}
use Rattle.sheet.specs.Checks.{check_of}
use Rattle.sheet.specs.Links.{Rows}
use Rattle.layout.specs.Good.{good}
use Rattle.sheet.specs.Numbers.{kind_number, numbers_of}
use Rattle.layout.specs.Tables.{Listed, accept, listed-by}
use Rattle.std.proofs.lemmas.List.{length-map}
use Rattle.layout.specs.Needs.{cells_from, registers_from, scratch_from}
use Rattle.tables.specs.Answer.{needed-all}
use Rattle.tables.proofs.measure.Given as given
use Rattle.tables.proofs.measure.Goals as goal
use Rattle.tables.proofs.measure.Goals.{In_ok-check, After-count-count}

passes : (g : given.Over) (c : In_ok-check g) → check_of c.args.sheet.now ≡ 0
passes g c = sym c.check.ensures.answer ∙ answer-ok c.in_ok-check.was

-- the tables have room for all records
room : (s : List ℕ) (n : ℕ) → Rows s n → check_of s ≡ 0 → count_of s ≤ n
room s n r e = let z = good s e in r.enough z.long z.small

pub count-count-requires : goal.count-count-requires
count-count-requires g c = omega (arith, (good c.args.sheet.now (passes g (goal.at.count-count-requires g c).In_ok-check)).long)

listed : (g : given.Over) (c : After-count-count g) → Listed c.args.sheet.now c.count-count.result (numbers_of c.check.new.kinds) c.check.new.first c.check.new.next
listed g c =
    let n = c.count-count.ensures.0 in
    let p = sym c.check.ensures.answer ∙ answer-ok c.in_ok-check.was in
    let m = room c.args.sheet.now g.row.N c.requires.0 p in
    listed-by c.count-count.result (accept c.args.sheet.now c.count-count.result p n) (c.check.ensures.tables (answer-ok c.in_ok-check.was))
    (omega (arith, m, n, length-map c.check.new.kinds kind_number, c.check.auto.kinds)) (omega (arith, m, n, c.check.auto.first)) (omega (arith, m, n, c.check.auto.next))

pub invariant_of-links : goal.invariant_of-links
invariant_of-links g c = record { listed = listed g (goal.at.invariant_of-links g c).After-count-count }

pub plan-requires : goal.plan-requires
plan-requires g c =
    let n = c.count-count.ensures.0 in
    let m = room c.args.sheet.now g.row.N c.requires.0 (passes g (goal.at.plan-requires g c).In_ok-check) in
    (omega (arith, m, n), omega (arith, m, n), omega (arith, m, n), omega (arith, m, n), omega (arith, m, n), omega (arith, m, n))

pub offsets-needs-requires : goal.offsets-needs-requires
offsets-needs-requires g c =
    let n = c.count-count.ensures.0 in
    let m = room c.args.sheet.now g.row.N c.requires.0 (passes g (goal.at.offsets-needs-requires g c).In_ok-check) in
    (c.plan.ensures.0, omega (arith, m, n, c.plan.auto.owned), omega (arith, m, n, c.plan.auto.froms), omega (arith, m, n))

pub returns-clause-needs : goal.returns-clause-needs
returns-clause-needs g c =
    let n = c.count-count.ensures.0 in
    let S = c.args.sheet.now in
    let o = c.offsets-needs.ensures in
    rw (o.cells_all ∙ ap (cells_from S) n, o.registers_all ∙ ap (registers_from S) n, o.scratch_all ∙ ap (scratch_from S) n, needed-all S (passes g (goal.at.returns-clause-needs g c).In_ok-check)) refl

pub returns-clause-made : goal.returns-clause-made
returns-clause-made g c =
    let l = listed g (goal.at.returns-clause-made g c).After-count-count in
    let o = c.offsets-needs.ensures in
    record {
      first_at = l.first_at;
      planned = record {
        passed = l.passed;
        kind_at = l.kind_at;
        next_at = l.next_at;
        act_at = c.plan.ensures.0;
        begin_at = c.plan.ensures.1;
        after_at = c.plan.ensures.2;
        cells_at = o.cells_at;
        registers_at = o.registers_at;
        scratch_at = o.scratch_at;
      };
    }
