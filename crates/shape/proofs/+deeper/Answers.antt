-- `shape::deeper` meets its contract. Assumes nothing.
use mathlib.Core.Path.{refl, sym, ap, ◌∙◌}
use Prim.Native.Nat.{ℕ, ◌<◌}
use native.Mathlib.Nat.{le_refl}
use native.Mathlib.Omega.{arith}
use lib.Dec.{ltb}
use lib.ListN.{length}
use borrow.Author.Tests.{le-ltb}
-- Invariants.antt names some of these too: it states the invariant, and here the laws about it are cited.
use Rattle.sheet.specs.Links.{at, depth_in}
use Rattle.sheet.specs.Numbers.{numbers_of}
use Rattle.shape.proofs.Nodes.{node-at}
use Rattle.sheet.specs.LinkLaws.{left, left-falls, first_below, next-below, deep-leaf, deep-within, deep-here, deep-below, depth-nil}
use Rattle.shape.proofs.+deeper.Goals as goal
use Rattle.shape.proofs.+deeper.Goals.{then-is_node+else-room-eq0+else-deeper, else-is_node}

pub loop-j-init : goal.loop-j-init
loop-j-init t c = (c.requires, le_refl _, refl)

pub returns-then-room-eq0 : goal.returns-then-room-eq0
returns-then-room-eq0 t c =
    let l = c.loop-j in
    let d = c.loop-j-test.true in
    let k = at (numbers_of c.args.t.now.kinds.now) in
    sym (l.invariant.2 ∙ deep-here c.args.t.now.linked.linked k c.args.room l.j d l.invariant.0 (node-at c.args.t.now.kinds.now l.j _ c.args.t.now.linked.kinds_long l.invariant.0 ∙ sym c.is_node.ensures ∙ c.if-is_node.true) c.if-room-eq0.true)

pub deeper-requires : goal.deeper-requires
deeper-requires t c =
    let l = c.loop-j in
    let d = c.loop-j-test.true in
    let links = c.args.t.now.linked.linked.links in
    let less : left (length c.args.t.now.first.now) (at c.args.t.now.first.now l.j) < t
    = omega (arith, left-falls _ l.j (at c.args.t.now.first.now l.j) d l.invariant.0 (λ g. (links.first_in l.j g).0), l.invariant.1, c.decreases) in
    (less, (first_below links (omega (arith, l.invariant.0)) l.j))

pub returns-then-deeper : goal.returns-then-deeper
returns-then-deeper t c =
    let l = c.loop-j in
    let d = c.loop-j-test.true in
    let k = at (numbers_of c.args.t.now.kinds.now) in
    sym (l.invariant.2 ∙ deep-below c.args.t.now.linked.linked k c.args.room l.j d l.invariant.0 (node-at c.args.t.now.kinds.now l.j _ c.args.t.now.linked.kinds_long l.invariant.0 ∙ sym c.is_node.ensures ∙ c.if-is_node.true) (sym c.deeper.ensures ∙ c.if-deeper.true))

pub loop-j-smaller : goal.loop-j-smaller
loop-j-smaller t c =
    let l = c.loop-j in
    left-falls _ l.j _ c.loop-j-test.true l.invariant.0 (λ g. (c.args.t.now.linked.linked.links.next_in l.j g).0)

pub loop-j-preserved : goal.loop-j-preserved
loop-j-preserved t c =
    let l = c.loop-j in
    let d = c.loop-j-test.true in
    let k = at (numbers_of c.args.t.now.kinds.now) in
    let links = c.args.t.now.linked.linked.links in (
      next-below links (omega (arith, l.invariant.0)) l.j,
      omega (arith, left-falls (length c.args.t.now.first.now) l.j (at c.args.t.now.next.now l.j) d l.invariant.0 (λ g. (links.next_in l.j g).0), l.invariant.1),
      l.invariant.2 ∙ elim c.if-is_node.branch [
        | then-is_node+else-room-eq0+else-deeper v ↦ deep-within c.args.t.now.linked.linked k c.args.room l.j d l.invariant.0 v.if-room-eq0.false (sym v.deeper.ensures ∙ v.if-deeper.false)
        | else-is_node v ↦ deep-leaf c.args.t.now.linked.linked k c.args.room l.j d l.invariant.0 (node-at c.args.t.now.kinds.now l.j _ c.args.t.now.linked.kinds_long l.invariant.0 ∙ sym c.is_node.ensures ∙ v.if-is_node.false)
      ],
    )

pub returns : goal.returns
returns t c =
    let l = c.loop-j in
    sym (l.invariant.2 ∙ ap (λ (i : ℕ). ltb c.args.room (depth_in (numbers_of c.args.t.now.kinds.now) c.args.t.now.first.now c.args.t.now.next.now i)) c.loop-j-test.false
    ∙ le-ltb c.args.room _ (omega (arith, depth-nil (at (numbers_of c.args.t.now.kinds.now)) (at c.args.t.now.first.now) (at c.args.t.now.next.now) (length c.args.t.now.first.now))))
