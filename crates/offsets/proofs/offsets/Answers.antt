use mathlib.Core.Path.{◌≡◌, refl, sym, ap, ◌∙◌}
use Prim.Native.Nat.{◌+◌, ◌≤◌}
use native.Mathlib.Omega.{arith}
use borrow.Author.Count.{below_none}
use lib.ListN.{length-set}
use Rattle.sheet.specs.Numbers.{kind_number}
use Rattle.layout.specs.declared.Role.TheVariants.{Out}
use Rattle.layout.specs.Tables.{entry-of, role_code, role-same}
use Rattle.sheet.specs.Checks.{sum}
use Rattle.layout.specs.Needs.{cells, registers, scratch}
use Rattle.layout.specs.Counts.{sums-turn, sums-done, cells-some, registers-some, scratch-some}
use Rattle.offsets.proofs.offsets.Goals as goal
use Rattle.offsets.proofs.offsets.Goals.{then-owns, else-owns}

pub loop-i-init : goal.loop-i-init
unfolding sum
loop-i-init c = (omega arith, refl, refl, refl, omega arith, omega arith, omega arith, refl, refl, refl, below_none _, below_none _, below_none _)

pub loop-i-preserved : goal.loop-i-preserved
loop-i-preserved c =
    let l = c.loop-i in
    let h = c.loop-i-test.true in
    let t = c.args.links.now in
    let sheet = t.sheet.now in
    let k = entry-of kind_number t.kinds.now t.listed.kind_at l.i h _ in
    let act = role-same _ _ (entry-of role_code c.args.acts.now c.requires.0 l.i h Out) in
    let owns = c.owns.ensures in
    -- what the turn adds is what record i needs
    let more : (c.if-owns.c ≡ l.c + cells sheet l.i) × (c.if-owns.r ≡ l.r + registers sheet l.i) × (c.if-owns.s ≡ l.s + scratch sheet l.i)
    × (c.if-owns.c ≤ l.c + 5760000) × (c.if-owns.r ≤ l.r + 11) × (c.if-owns.s ≤ l.s + 256)
    = elim c.if-owns.branch [
      | then-owns w ↦ let b = sym act ∙ owns.0 w.if-owns.true in (
        w.c-is ∙ ap (λ n. l.c + n) (w.cells_of.ensures.0 ∙ cells-some sheet l.i _ k b),
        w.r-is ∙ ap (λ n. l.r + n) (w.registers_of.ensures.0 ∙ registers-some sheet l.i _ k b),
        w.s-is ∙ ap (λ n. l.s + n) (w.scratch_of.ensures.0 ∙ scratch-some sheet l.i _ k b),
        omega arith,
        omega arith,
        omega arith,
      )
      | else-owns w ↦ let z = owns.1 w.if-owns.false sheet l.i k act in (omega arith, omega arith, omega arith, omega arith, omega arith, omega arith)
    ]
    in
    let wc = sums-turn (cells sheet) l.places l.i l.c _ (omega arith) l.invariant.10 l.invariant.7 refl in
    let wr = sums-turn (registers sheet) l.words l.i l.r _ (omega arith) l.invariant.11 l.invariant.8 refl in
    let ws = sums-turn (scratch sheet) l.blocks l.i l.s _ (omega arith) l.invariant.12 l.invariant.9 refl in
    (omega arith, simp length-set l.invariant.1, simp length-set l.invariant.2, simp length-set l.invariant.3, omega arith, omega arith, omega arith, more.0 ∙ wc.1, more.1 ∙ wr.1, more.2 ∙ ws.1, wc.0, wr.0, ws.0)

pub shape_of-places : goal.shape_of-places
shape_of-places c = simp length-set c.loop-i.invariant.1

pub shape_of-words : goal.shape_of-words
shape_of-words c = simp length-set c.loop-i.invariant.2

pub shape_of-blocks : goal.shape_of-blocks
shape_of-blocks c = simp length-set c.loop-i.invariant.3

pub returns : goal.returns
returns c =
    let l = c.loop-i in
    let sheet = c.args.links.now.sheet.now in
    let n = c.args.links.now.count in
    let small = c.args.links.now.listed.passed.small in
    let e : l.i ≡ n = omega arith in
    let wc = sums-done (cells sheet) l.places n n l.c (omega arith) (omega arith) (omega arith) (rw e at l.invariant.10) (rw e at l.invariant.7) in
    let wr = sums-done (registers sheet) l.words n n l.r (omega arith) (omega arith) (omega arith) (rw e at l.invariant.11) (rw e at l.invariant.8) in
    let ws = sums-done (scratch sheet) l.blocks n n l.s (omega arith) (omega arith) (omega arith) (rw e at l.invariant.12) (rw e at l.invariant.9) in
    record {
      cells_at = wc.0;
      registers_at = wr.0;
      scratch_at = ws.0;
      cells_all = wc.1;
      registers_all = wr.1;
      scratch_all = ws.1;
      cells_most = omega (arith, small);
      registers_most = omega (arith, small);
      scratch_most = omega (arith, small);
    }
