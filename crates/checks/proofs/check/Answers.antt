use Rattle.std.specs.Prelude.{◌≤◌, length}
use Rattle.std.proofs.Common.{sym, ◌∙◌, arith, length-take-le}
use Rattle.std.proofs.lemmas.List.{length-map, take-map}
use Rattle.std.proofs.lemmas.Result.{err_from_is_err_and}
use Rattle.refusal.specs.Refusal.{answer-ok, answer-err, passed-on}
use Rattle.sheet.specs.Accepted.{Sized, sized, checked-one, checked-two, checked-fault, checked-shape, tables-linked}
use Rattle.sheet.specs.Numbers.{kind_number, numbers_of}
use Rattle.checks.proofs.check.Goals as goal
use Rattle.checks.proofs.check.Goals.{In_ok-decode}

-- after the pass over the records, which found no fault: the tables have room for all
module _ (c : In_ok-decode) where
  size : Sized c.args.sheet.now
  size = sized _ (sym c.length_ok.ensures ∙ c.if-not-length_ok.false)

  kinds_long : c.count-n.result ≤ length c.decode.new.kinds
  kinds_long = omega (arith, c.requires.0.enough size.long size.few, c.count-n.ensures.0, c.decode.auto.kinds)

  numbers_long : c.count-n.result ≤ length (numbers_of c.decode.new.kinds)
  numbers_long = omega (arith, kinds_long, length-map c.decode.new.kinds kind_number)

  first_long : c.count-n.result ≤ length c.decode.new.first
  first_long = omega (arith, c.requires.0.enough size.long size.few, c.count-n.ensures.0, c.requires.1, c.decode.auto.first)

  next_long : c.count-n.result ≤ length c.decode.new.next
  next_long = omega (arith, c.requires.0.enough size.long size.few, c.count-n.ensures.0, c.requires.2, c.decode.auto.next)

pub returns-then-not-length_ok : goal.returns-then-not-length_ok
returns-then-not-length_ok c = checked-one _ _ _ _ (sym c.length_ok.ensures ∙ c.if-not-length_ok.true)

pub header_ok-requires : goal.header_ok-requires
header_ok-requires c = (sized _ (sym c.length_ok.ensures ∙ c.if-not-length_ok.false)).head

pub returns-then-not-header_ok : goal.returns-then-not-header_ok
returns-then-not-header_ok c = checked-two _ _ _ _ (sym c.length_ok.ensures ∙ c.if-not-length_ok.false) (sym c.header_ok.ensures ∙ c.if-not-header_ok.true)

pub count-n-requires : goal.count-n-requires
count-n-requires c = (sized _ (sym c.length_ok.ensures ∙ c.if-not-length_ok.false)).head

pub decode-requires : goal.decode-requires
decode-requires c = let z = sized _ (sym c.length_ok.ensures ∙ c.if-not-length_ok.false) in
    let e = c.count-n.ensures.0 in
    let p = c.requires in
    let m = p.0.enough z.long z.few in record { n_value = (e, omega (arith, z.few, e), omega (arith, z.long, e)); n_in_bounds = (omega (arith, e, m), omega (arith, e, m, p.1), omega (arith, e, m, p.2)) }

pub returns-in_err-decode : goal.returns-in_err-decode
returns-in_err-decode c =
    let p = err_from_is_err_and c.from_residual.result c.from_residual.ensures.1 in
    rw (passed-on c.in_err-decode.was p.1 p.2)
    (checked-fault _ _ _ _ (sym c.length_ok.ensures ∙ c.if-not-length_ok.false) (sym c.header_ok.ensures ∙ c.if-not-header_ok.false) c.decode.ensures (answer-err c.in_err-decode.was))

pub slice_bounds-shape-end : goal.slice_bounds-shape-end
slice_bounds-shape-end c = kinds_long (goal.at.slice_bounds-shape-end c).In_ok-decode

pub slice_bounds-shape-end-2 : goal.slice_bounds-shape-end-2
slice_bounds-shape-end-2 c = sym (length-take-le _ _ (kinds_long (goal.at.slice_bounds-shape-end-2 c).In_ok-decode))

pub slice_bounds-shape-end-3 : goal.slice_bounds-shape-end-3
slice_bounds-shape-end-3 c = first_long (goal.at.slice_bounds-shape-end-3 c).In_ok-decode

pub slice_bounds-shape-end-4 : goal.slice_bounds-shape-end-4
slice_bounds-shape-end-4 c = sym (length-take-le _ _ (first_long (goal.at.slice_bounds-shape-end-4 c).In_ok-decode))

pub slice_bounds-shape-end-5 : goal.slice_bounds-shape-end-5
slice_bounds-shape-end-5 c = next_long (goal.at.slice_bounds-shape-end-5 c).In_ok-decode

pub slice_bounds-shape-end-6 : goal.slice_bounds-shape-end-6
slice_bounds-shape-end-6 c = sym (length-take-le _ _ (next_long (goal.at.slice_bounds-shape-end-6 c).In_ok-decode))

pub shape-requires : goal.shape-requires
shape-requires c =
    let d = (goal.at.shape-requires c).In_ok-decode in
    let z = size d in
    let e = c.count-n.ensures.0 in
    let k = length-take-le _ _ (kinds_long d) in
    let f = length-take-le _ _ (first_long d) in
    record {
      links_in = tables-linked _ _ _ _ (sym c.length_ok.ensures ∙ c.if-not-length_ok.false) (sym c.header_ok.ensures ∙ c.if-not-header_ok.false) c.decode.ensures (answer-ok c.in_ok-decode.was) e (numbers_long d) (first_long d) (next_long d);
      kinds_len = (k ∙ sym f, omega (arith, f, e, z.some), omega (arith, f, e, z.few));
    }

pub returns : goal.returns
returns c =
    let d = (goal.at.returns c).In_ok-decode in
    checked-shape _ _ _ _ (sym c.length_ok.ensures ∙ c.if-not-length_ok.false) (sym c.header_ok.ensures ∙ c.if-not-header_ok.false) c.decode.ensures (answer-ok c.in_ok-decode.was) c.count-n.ensures.0
    (numbers_long d) (first_long d) (next_long d) (rw (sym (take-map kind_number c.count-n.result c.decode.new.kinds)) at c.shape.ensures)
