use mathlib.Core.Path.{◌≡◌, refl, sym, ap, ◌∙◌}
use Prim.Native.Nat.{◌≤◌, ◌<◌}
use native.Mathlib.Omega.{arith}
use lib.ListN.{length, length-set}
use borrow.Author.Rules.{rules}
use borrow.Author.Tests.{eq-eqb, ne_eqb}
-- Invariants.antt names some of these too: it states the invariant, and here the laws about it are cited.
use Rattle.sheet.specs.Checks.{all}
use Rattle.sheet.specs.Links.{at, once_at}
use Rattle.sheet.specs.Laws.{all-suc, all-fails}
use Rattle.sheet.specs.LinkLaws.{count-start, count-first, count_next, count_turn, once-turn, first_below, next-below}
use Rattle.shape.proofs.once_in.Goals as goal
use Rattle.shape.proofs.once_in.Goals.{After-shared_slice_known-1, In-loop-i}

-- record 0's own chain
root_in : (c : After-shared_slice_known-1) → at c.args.first.now 0 < length c.args.first.now
root_in c = first_below c.requires.links_in.links c.requires.in_bounds.0 0

-- the two links of a turn
first_in : (c : In-loop-i) → at c.args.first.now c.loop-i.i < length c.args.first.now
first_in c = first_below c.requires.links_in.links c.requires.in_bounds.0 c.loop-i.i

next_in : (c : In-loop-i) → at c.args.next.now c.loop-i.i < length c.args.first.now
next_in c = next-below c.requires.links_in.links c.requires.in_bounds.0 c.loop-i.i

long : (c : In-loop-i) → length c.args.first.now ≤ length c.loop-i.hits
long c = omega (arith, simp length-set at c.loop-i.invariant.0, c.requires.first_in_bounds.0)

pub offset_bounds-hits-root : goal.offset_bounds-hits-root
offset_bounds-hits-root c = omega (arith, root_in c)

pub bounds-hits-root : goal.bounds-hits-root
bounds-hits-root c = omega (arith, root_in c)

pub loop-i-init : goal.loop-i-init
unfolding all once_at
loop-i-init c = (refl, count-start c.requires.links_in.links c.args.hits.now (omega (arith, root_in c)) c.requires.first_in_bounds.1, refl)

pub bounds-hits-i : goal.bounds-hits-i
bounds-hits-i c = omega (arith, long (goal.at.bounds-hits-i c).In-loop-i)

pub shape_of-hits-then-hits-i-ne1 : goal.shape_of-hits-then-hits-i-ne1
shape_of-hits-then-hits-i-ne1 c = c.loop-i.invariant.0 ∙ simp length-set

pub returns-then-hits-i-ne1 : goal.returns-then-hits-i-ne1
returns-then-hits-i-ne1 c =
    let l = c.loop-i in
    let d = c.loop-i-test.true in
    sym (all-fails (once_at (at c.args.first.now) (at c.args.next.now) (length c.args.first.now)) _ l.i d (sym (once-turn c.requires.links_in.links l.invariant.1 (λ e. search rules) d) ∙ ne_eqb _ 1 c.if-hits-i-ne1.true))

pub offset_bounds-hits-f : goal.offset_bounds-hits-f
offset_bounds-hits-f c = omega (arith, first_in (goal.at.offset_bounds-hits-f c).In-loop-i)

pub bounds-hits-f : goal.bounds-hits-f
bounds-hits-f c = omega (arith, first_in (goal.at.bounds-hits-f c).In-loop-i, long (goal.at.bounds-hits-f c).In-loop-i)

pub overflow_add-hits : goal.overflow_add-hits
overflow_add-hits c = omega (arith, count-first c.loop-i.invariant.1 _ (first_in (goal.at.overflow_add-hits c).In-loop-i))

pub bounds-hits-f-in-loop-i : goal.bounds-hits-f-in-loop-i
bounds-hits-f-in-loop-i c = omega (arith, first_in (goal.at.bounds-hits-f-in-loop-i c).In-loop-i, long (goal.at.bounds-hits-f-in-loop-i c).In-loop-i)

pub offset_bounds-hits-x : goal.offset_bounds-hits-x
offset_bounds-hits-x c = omega (arith, next_in (goal.at.offset_bounds-hits-x c).In-loop-i)

pub bounds-hits-x : goal.bounds-hits-x
bounds-hits-x c = simp length-set (omega (arith, next_in (goal.at.bounds-hits-x c).In-loop-i, long (goal.at.bounds-hits-x c).In-loop-i))

pub overflow_add-hits-in-loop-i : goal.overflow_add-hits-in-loop-i
overflow_add-hits-in-loop-i c =
    let l = at c.args.first.now c.loop-i.i in
    let m = at c.args.next.now c.loop-i.i in
    omega (arith, count_next c.loop-i.invariant.1 l m (omega (arith, first_in (goal.at.overflow_add-hits-in-loop-i c).In-loop-i, long (goal.at.overflow_add-hits-in-loop-i c).In-loop-i)) (next_in (goal.at.overflow_add-hits-in-loop-i c).In-loop-i))

pub bounds-hits-x-in-loop-i : goal.bounds-hits-x-in-loop-i
bounds-hits-x-in-loop-i c = simp length-set (omega (arith, next_in (goal.at.bounds-hits-x-in-loop-i c).In-loop-i, long (goal.at.bounds-hits-x-in-loop-i c).In-loop-i))

pub loop-i-preserved : goal.loop-i-preserved
loop-i-preserved c =
    let l = c.loop-i in
    let p = once_at (at c.args.first.now) (at c.args.next.now) (length c.args.first.now) in
    let o = sym (once-turn c.requires.links_in.links l.invariant.1 (λ e. search rules) c.loop-i-test.true) ∙ eq-eqb _ 1 c.if-hits-i-ne1.false in
    (simp length-set (simp length-set at l.invariant.0), count_turn l.invariant.1 (omega (arith, first_in (goal.at.loop-i-preserved c).In-loop-i, long (goal.at.loop-i-preserved c).In-loop-i)) (omega (arith, next_in (goal.at.loop-i-preserved c).In-loop-i, long (goal.at.loop-i-preserved c).In-loop-i)), all-suc p l.i ∙ rw l.invariant.2 o)

pub shape_of-hits : goal.shape_of-hits
shape_of-hits c = c.loop-i.invariant.0 ∙ simp length-set

pub returns : goal.returns
returns c =
    let l = c.loop-i in
    let a = c.args in
    let e : l.i ≡ length a.first.now = omega arith in
    sym l.invariant.2 ∙ ap (all (once_at (at a.first.now) (at a.next.now) (length a.first.now))) e
