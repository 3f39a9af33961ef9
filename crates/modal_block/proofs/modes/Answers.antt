use Rattle.std.proofs.Common.{◌≡◌, ◌+◌, ◌*◌, ◌<◌, ◌≤◌, length, replicate, refl, sym, ap, ◌∙◌, arith}
use native.Mathlib.Nat.{le_refl}
use Rattle.float.specs.Single.{◌⊕◌, zero}
use Rattle.proc.specs.declared.Mode.{Mode}
use Rattle.block.specs.Iterate.{given, after}
use Rattle.block.specs.Loop.{going_start, going-turn, going_end}
use Rattle.modal_block.specs.Modes.{sums, so_far, mode_turn, modes_step, modes-start, sums-start, length-sums, modes-turn, modes-end}
use Rattle.modal_block.proofs.modes.Goals as goal

pub loop-k-init : goal.loop-k-init
loop-k-init g c =
    let x = c.args.x in
    let lx : g.row.N ≡ length x = omega arith in
    (ap (λ n. replicate n zero) lx ∙ sym (sums-start x c.args.cells.now), sym (ap (λ r. r.1) (modes-start x c.args.cells.now)), refl)

pub loop-j-init : goal.loop-j-init
loop-j-init g c = going_start _ _ _ _

pub loop-j-preserved : goal.loop-j-preserved
unfolding mode_turn
loop-j-preserved g c =
    let l = c.loop-j in
    let lw : l.j < length c.loop-k.wet = omega (arith, ap length c.loop-k.invariant.0, length-sums c.args.x c.args.cells.now c.loop-k.k) in
    let t = l.invariant.todo l.j (le_refl l.j) in
    let e = c.step.ensures in
    going-turn _ _ _ _ l.invariant lw (λ i. t i ⊕ (e i).0) (λ i. (e i).1)

pub loop-k-preserved : goal.loop-k-preserved
loop-k-preserved g c =
    let l = c.loop-k in
    let x = c.args.x in
    let p = c.put_mode.ensures in
    let lw : length l.wet ≤ c.loop-j.j = omega (arith, ap length l.invariant.0, length-sums x c.args.cells.now l.k) in
    let fits : 5 * l.k + 4 < length l.cells = omega (arith, c.loop-k-test.true, l.invariant.2, c.requires) in
    let e = going_end _ _ _ _ c.loop-j.invariant lw in
    let m = c.mode_at-mode.ensures in
    let r = modes-turn x c.args.cells.now l.k fits l.invariant.0 l.invariant.1
    (e.0 ∙ ap (λ (m : Mode). given (mode_turn x l.wet) m (length l.wet)) m) (e.1 ∙ ap (λ (m : Mode). after (mode_turn x l.wet) m (length l.wet)) m) in
    (r.0, p.0 ∙ r.1, p.1 ∙ l.invariant.2)

pub returns : goal.returns
returns g c =
    let l = c.loop-k in
    let x = c.args.x in
    let cs = c.args.cells.now in
    let n = c.args.n in
    let e : l.k ≡ n = omega arith in
    let lx : length x ≡ g.row.N = omega arith in
    let r = modes-end n x cs in (
      l.invariant.0 ∙ ap (λ k. sums (so_far x cs k).0) e ∙ r.0 ∙ ap (given (modes_step n x) cs) lx,
      l.invariant.1 ∙ ap (λ k. (so_far x cs k).1) e ∙ r.1 ∙ ap (after (modes_step n x) cs) lx,
      l.invariant.2,
    )
