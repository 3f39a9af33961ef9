-- `chains::members` meets its contract. The invariant: what is counted so far, each one that may stand there, with what is left of the chain makes the whole. Assumes nothing.
use Rattle.std.specs.Prelude.{◌≡◌, refl, true, Bool, List, ℕ, ◌<◌, length, get_or}
use Rattle.std.proofs.Common.{sym, ap, ◌∙◌, arith}
use Rattle.std.proofs.lemmas.List.{length-map}
-- Invariants.antt names some of these too: it states the invariant, and here the laws about it are cited.
use Rattle.sheet.specs.Checks.{allows}
use Rattle.sheet.specs.Links.{at}
use Rattle.sheet.specs.Laws.{number-at}
use Rattle.sheet.specs.Numbers.{kind_number, numbers_of, chain_of}
use Rattle.sheet.specs.LinkLaws.{left-falls, first_below, walk_start, walk_turn, walk-stop, walk-all, walk-count}
use Rattle.sheet.specs.declared.kinds.Kind.{Kind}
use Rattle.chains.proofs.members.Goals as goal

-- a test of a record's number is one of its kind in the table
kind-at : (ks : List Kind) (j : ℕ) (d : Kind) (p : ℕ → Bool) → j < length (numbers_of ks) → p (at (numbers_of ks) j) ≡ p (kind_number (get_or ks j d))
kind-at ks j d p h = ap p (number-at ks j d (omega (arith, length-map ks kind_number)))

pub loop-j-init : goal.loop-j-init
loop-j-init c = walk_start _ _ _ _ _ _ (first_below c.args.t.now.linked.linked.links (omega arith) c.args.i)

pub returns-then-not-allows : goal.returns-then-not-allows
returns-then-not-allows c =
    let l = c.loop-j in
    rw (sym (walk-stop c.args.t.now.linked.linked l.invariant c.loop-j-test.true (kind-at c.args.t.now.kinds.now l.j _ (allows (chain_of c.args.chain)) (omega (arith, l.invariant.inside, c.args.t.now.linked.kinds_long)) ∙ sym c.allows.ensures ∙ c.if-not-allows.true))) refl

pub overflow_add-count : goal.overflow_add-count
overflow_add-count c = omega (arith, c.loop-j.invariant.room, c.well_formed.1.1.0)

pub loop-j-smaller : goal.loop-j-smaller
loop-j-smaller c =
    let l = c.loop-j in
    left-falls _ l.j _ c.loop-j-test.true l.invariant.inside (λ g. (c.args.t.now.linked.linked.links.next_in l.j g).0)

pub loop-j-preserved : goal.loop-j-preserved
loop-j-preserved c =
    let l = c.loop-j in
    walk_turn c.args.t.now.linked.linked l.invariant c.loop-j-test.true {b = true} (sym (kind-at c.args.t.now.kinds.now l.j _ (allows (chain_of c.args.chain)) (omega (arith, l.invariant.inside, c.args.t.now.linked.kinds_long)) ∙ sym c.allows.ensures ∙ c.if-not-allows.false))

pub returns : goal.returns
returns c =
    let l = c.loop-j in
    let k = c.args.t.now.linked.linked in
    rw (sym (walk-all k l.invariant c.loop-j-test.false), walk-count k l.invariant c.loop-j-test.false) refl
