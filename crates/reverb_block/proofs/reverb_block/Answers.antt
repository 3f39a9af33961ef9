use mathlib.Core.Path.{◌≡◌, refl, sym, ap, ◌∙◌}
use mathlib.Core.List.{List, ◌++◌}
use Prim.Native.Nat.{ℕ, ◌-◌}
use native.Mathlib.Omega.{arith}
use lib.ListN.{length, take, drop, length-append, length-take}
use lib.Ieee.{Float}
use Rattle.block.specs.Iterate.{given, after}
use Rattle.reverb_block.specs.Reverb.{line_from, reverb_step}
use Rattle.reverb_block.specs.Lines.{parts, together}
use Rattle.reverb_block.proofs.reverb_block.Goals as goal

pub reverb_lines-requires : goal.reverb_lines-requires
unfolding line_from
reverb_lines-requires c =
    let p = c.requires in
    let s = c.copy_from_slice-3.ensures.after in
    record { placed = rw (s, c.copy_from_slice-2.ensures.after) p.0; long = rw s (simp length-take (omega (arith, p.1))); start = refl }

pub copy_from_slice-requires-5 : goal.copy_from_slice-requires-5
copy_from_slice-requires-5 c = c.requires.0.places ∙ sym c.reverb_lines.ensures.2.placed.places

pub returns : goal.returns
returns c =
    let a = c.args in
    let p = c.requires in
    let l = c.reverb_lines in
    let r = l.ensures in
    let s = c.copy_from_slice-3.ensures.after in
    let w = c.copy_from_slice-2.ensures.after in
    let d = length a.cells.now - 6 in
    let ls = l.new.lines in
    let ss = l.new.stores in
    let es = ls ++ drop d a.cells.now in
    let t = ap (λ (ss : List Float). take d a.cells.now ++ ss) c.copy_from_slice.ensures.after ∙ parts d a.cells.now in
    let long : length ls ≡ d = r.2.long ∙ ap (λ (lens : List ℕ). line_from lens 10) s ∙ omega (arith, p.1) in
    let back = (λ i. take d es ++ (c.copy_from_slice-4.ensures.after i ++ drop (length es - d) (drop d es))) ∙ together d a.cells.now ls ss long in
    let step = reverb_step a.out.now a.feedback a.mix in (
      r.0 ∙ (λ i. given (step (s i)) (t i, w i) (length a.out.now)),
      (λ i. (back i, c.copy_from_slice-5.ensures.after i)) ∙ r.1 ∙ (λ i. after (step (s i)) (t i, w i) (length a.out.now)),
      rw c.copy_from_slice-5.ensures.after (rw s at r.2.placed),
      ap (λ (l : List Float). length l) back ∙ length-append ls ss ∙ omega (arith, long, p.1),
    )
