-- `fields::record_ok` meets its contract: what an entry says is what the row of the kind does.
use Rattle.std.specs.Prelude.{◌≡◌, false, List, ◌≢◌, ℕ, ◌+◌, ◌-◌, ◌*◌, ◌≤◌, ◌<◌, ltb, eqb}
use Rattle.std.proofs.Common.{sym, ap, ◌∙◌, arith, lt-ltb, le-ltb, eq-eqb, ne_eqb}
use Rattle.sheet.specs.Bytes.{byte_at, u16_at}
use Rattle.sheet.specs.Record.{kind_of, option_of}
use Rattle.sheet.specs.Kinds.{Row, row_of}
use Rattle.sheet.specs.Checks.{all, record_ok}
use Rattle.sheet.specs.Numbers.{Numbered}
use Rattle.sheet.specs.Table.{row-unknown}
use Rattle.sheet.specs.Laws.{and-false}
use Rattle.fields.proofs.record_ok.Goals as goal

module _ (r : List ℕ) where
  no-option : (row_of (kind_of r)).options ≤ option_of r → record_ok r ≡ false
  unfolding record_ok
  no-option h = rw (le-ltb (option_of r) (row_of (kind_of r)).options h)

  no_zero : u16_at r 6 ≢ 0 → record_ok r ≡ false
  unfolding record_ok
  no_zero h = rw (ne_eqb (u16_at r 6) 0 h, and-false (ltb (option_of r) (row_of (kind_of r)).options))

  by-numbers : option_of r < (row_of (kind_of r)).options → u16_at r 6 ≡ 0 → record_ok r ≡ all (λ k. eqb (byte_at r (8 + 4 * (row_of (kind_of r)).numbers + k)) 0) (32 - 4 * (row_of (kind_of r)).numbers)
  unfolding record_ok
  by-numbers h z = rw (lt-ltb (option_of r) (row_of (kind_of r)).options h, eq-eqb (u16_at r 6) 0 z)

pub returns-in_default : goal.returns-in_default
unfolding Numbered
returns-in_default c =
    let e = row-unknown (kind_of c.args.r.now) (rw c.in_default.is at c.requires) in
    sym (no-option c.args.r.now (omega (arith, ap (λ (row : Row). row.options) e)))

pub returns-then-options-option : goal.returns-then-options-option
unfolding Numbered
returns-then-options-option c =
    let e = rw c.in-Some.is at c.requires in
    sym (no-option c.args.r.now (omega (arith, e.1, c.option.ensures, c.if-options-option.true)))

pub returns-then-half-ne0 : goal.returns-then-half-ne0
returns-then-half-ne0 c = sym (no_zero c.args.r.now (λ e. c.if-half-ne0.true (c.half.ensures ∙ ap (λ (s : List ℕ). u16_at s 6) c.bytes.ensures.0 ∙ e)))

pub unset-requires : goal.unset-requires
unfolding Numbered
unset-requires c =
    let e = rw c.in-Some.is at c.requires in
    e.3

pub returns : goal.returns
unfolding Numbered
returns c =
    let e = rw c.in-Some.is at c.requires in
    rw e.2 at c.unset.ensures
    ∙ sym (by-numbers c.args.r.now (omega (arith, e.1, c.option.ensures, c.if-options-option.false)) (sym (c.half.ensures ∙ ap (λ (s : List ℕ). u16_at s 6) c.bytes.ensures.0) ∙ c.if-half-ne0.false))
