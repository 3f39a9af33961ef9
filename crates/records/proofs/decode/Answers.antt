use Rattle.std.specs.Prelude.{◌≡◌, refl, ◌&&◌, List, ℕ, ◌<◌, length, get_or, set, Some, None}
use Rattle.std.proofs.Common.{sym, ap, ◌∙◌, arith, length-set, get_or-set_same, get_or-set_other}
use Rattle.sheet.specs.Record as of
use Rattle.sheet.specs.Checks.{record_ok}
use Rattle.sheet.specs.Laws.{and-true, and-false, number-at}
use Rattle.sheet.specs.Numbers.{kind_number, numbers_of, Numbered}
use Rattle.sheet.specs.Decoding.{read-start, read-turn, read_done}
use Rattle.sheet.specs.declared.kinds.Kind.{Kind}
use Rattle.sheet.specs.declared.kinds.Entry.{Entry}
use Rattle.records.proofs.decode.Goals as goal
use Rattle.records.proofs.decode.Goals.{in-Some, in_default, then-not-links_ok, else-not-links_ok}

-- what a turn leaves of the kinds js, which were ks
record Turned (r : List ℕ) (ks js : List Kind) (i : ℕ) : Type 0 where
  kept : (j : ℕ) → j < i → get_or (numbers_of js) j 0 ≡ get_or (numbers_of ks) j 0
  here : (kind : Kind) → kind_number kind ≡ of.kind_of r → get_or (numbers_of js) i 0 ≡ of.kind_of r

module _ (r : List ℕ) (ks : List Kind) (i : ℕ) where
  of-kind : (e : Entry) → Numbered (of.kind_of r) (Some e) → i < length ks → Turned r ks (set ks i e.kind) i
  unfolding Numbered
  of-kind e n h = record {
    kept = λ j l. number-at (set ks i e.kind) j e.kind (omega (arith, length-set ks i e.kind)) ∙ ap kind_number (get_or-set_other ks i j e.kind e.kind (λ q. omega arith)) ∙ sym (number-at ks j e.kind (omega arith));
    here = λ k q. number-at (set ks i e.kind) i e.kind (omega (arith, length-set ks i e.kind)) ∙ ap kind_number (get_or-set_same ks i e.kind e.kind h) ∙ n.0;
  }

  of-none : Numbered (of.kind_of r) None → Turned r ks ks i
  unfolding Numbered
  of-none n = record { kept = λ j l. refl; here = λ k q. absurd (n k q) }

pub loop-i-init : goal.loop-i-init
loop-i-init c = read-start _ _ _ _

pub record_ok-whole-requires : goal.record_ok-whole-requires
record_ok-whole-requires c = c.entry-entry.ensures

pub loop-i-preserved : goal.loop-i-preserved
loop-i-preserved c =
    let l = c.loop-i in
    let e = c.at-r.ensures in
    let r = of.record_at c.args.sheet.now l.i in
    let turned : Turned r l.kinds c.match-entry.kinds l.i = elim c.match-entry.branch [
      | in-Some w ↦ rw w.kinds-is (of-kind r l.kinds l.i w.in-Some.e (rw (e, w.in-Some.is) at c.entry-entry.ensures) (omega arith))
      | in_default w ↦ rw w.kinds-is (of-none r l.kinds l.i (rw (e, w.in_default.is) at c.entry-entry.ensures))
    ] in
    let linked : c.if-not-links_ok.linked ≡ (l.linked && c.links_ok.result) = elim c.if-not-links_ok.branch [
      | then-not-links_ok w ↦ rw (w.linked-is, w.if-not-links_ok.true) (sym (and-false l.linked))
      | else-not-links_ok w ↦ rw (w.linked-is, w.if-not-links_ok.false) (sym (and-true l.linked))
    ] in
    rw linked (
    read-turn l.invariant turned.kept turned.here (omega arith) (omega arith) c.requires.n_value.0
    (c.first-f.ensures.0 ∙ ap of.first_of e) (c.next-x.ensures.0 ∙ ap of.next_of e) (c.record_ok-whole.ensures ∙ ap record_ok e) c.links_ok.ensures
    )

pub returns-then-not-whole : goal.returns-then-not-whole
returns-then-not-whole c = read_done c.loop-i.invariant (omega (arith, c.requires.n_value.0)) (rw c.if-not-whole.true refl)

pub returns-then-not-linked : goal.returns-then-not-linked
returns-then-not-linked c = read_done c.loop-i.invariant (omega (arith, c.requires.n_value.0)) (rw (c.if-not-whole.false, c.if-not-linked.true) refl)

pub returns : goal.returns
returns c = read_done c.loop-i.invariant (omega (arith, c.requires.n_value.0)) (rw (c.if-not-whole.false, c.if-not-linked.false) refl)
