use mathlib.Core.Path.{◌≡◌, refl, sym, ap, ◌∙◌}
use Prim.Native.Nat.{ℕ, ◌-◌, ◌+◌, ◌≤◌, ◌<◌}
use native.Mathlib.Omega.{arith}
use lib.ListN.{length, take, drop, length-drop, length-append}
use lib.Seq.{length-take-le}
use Rattle.streaming.specs.Run.{run-start, run-turn, run_end}
use Rattle.streaming.proofs.run.Goals as goal

pub loop-d-init : goal.loop-d-init
loop-d-init c = (run-start _ _ _ _ _ _ c.requires.1, refl, refl, refl)

pub slice_bounds-block-end-in-loop-d : goal.slice_bounds-block-end-in-loop-d
slice_bounds-block-end-in-loop-d c = let l = c.loop-d in
    let r = l.invariant.0 in
    let m = c.chunk-m.result in
    omega (arith, l.invariant.1, c.requires.2.enough m c.chunk-m.ensures.1 (omega (arith, r.outs, c.chunk-m.ensures.0)))

pub slice_bounds-block-end-in-loop-d-2 : goal.slice_bounds-block-end-in-loop-d-2
slice_bounds-block-end-in-loop-d-2 c = let l = c.loop-d in
    let r = l.invariant.0 in
    let m = c.chunk-m.result in
    sym (length-take-le m l.v (omega (arith, l.invariant.1, c.requires.2.enough m c.chunk-m.ensures.1 (omega (arith, r.outs, c.chunk-m.ensures.0)))))

pub slice_bounds-block-end-in-loop-d-3 : goal.slice_bounds-block-end-in-loop-d-3
slice_bounds-block-end-in-loop-d-3 c = let l = c.loop-d in
    let r = l.invariant.0 in
    let m = c.chunk-m.result in
    omega (arith, l.invariant.2, c.requires.3.enough m c.chunk-m.ensures.1 (omega (arith, r.outs, c.chunk-m.ensures.0)))

pub slice_bounds-block-end-in-loop-d-4 : goal.slice_bounds-block-end-in-loop-d-4
slice_bounds-block-end-in-loop-d-4 c = let l = c.loop-d in
    let r = l.invariant.0 in
    let m = c.chunk-m.result in
    sym (length-take-le m l.w (omega (arith, l.invariant.2, c.requires.3.enough m c.chunk-m.ensures.1 (omega (arith, r.outs, c.chunk-m.ensures.0)))))

pub slice_bounds-block-end-in-loop-d-5 : goal.slice_bounds-block-end-in-loop-d-5
slice_bounds-block-end-in-loop-d-5 c = let l = c.loop-d in
    let r = l.invariant.0 in
    let m = c.chunk-m.result in
    omega (arith, l.invariant.3, c.requires.4.enough m c.chunk-m.ensures.1 (omega (arith, r.outs, c.chunk-m.ensures.0)))

pub slice_bounds-block-end-in-loop-d-6 : goal.slice_bounds-block-end-in-loop-d-6
slice_bounds-block-end-in-loop-d-6 c = let l = c.loop-d in
    let r = l.invariant.0 in
    let m = c.chunk-m.result in
    sym (length-take-le m l.pitch (omega (arith, l.invariant.3, c.requires.4.enough m c.chunk-m.ensures.1 (omega (arith, r.outs, c.chunk-m.ensures.0)))))

pub block-c-requires : goal.block-c-requires
block-c-requires c = let l = c.loop-d in
    let r = l.invariant.0 in
    let m = c.chunk-m.result in
    let z : l.d + m - l.d ≡ m = omega arith in
    let h : m ≤ length (drop l.d l.out) = simp length-drop (omega (arith, c.chunk-m.ensures.0)) in
    let lo = length-take-le m (drop l.d l.out) h in
    let lv = length-take-le m l.v (omega (arith, l.invariant.1, c.requires.2.enough m c.chunk-m.ensures.1 (omega (arith, r.outs, c.chunk-m.ensures.0)))) in
    let lw = length-take-le m l.w (omega (arith, l.invariant.2, c.requires.3.enough m c.chunk-m.ensures.1 (omega (arith, r.outs, c.chunk-m.ensures.0)))) in
    let lp = length-take-le m l.pitch (omega (arith, l.invariant.3, c.requires.4.enough m c.chunk-m.ensures.1 (omega (arith, r.outs, c.chunk-m.ensures.0)))) in
    rw (z, lo) (omega (arith, c.requires.0, r.scr), r.sound, c.chunk-m.ensures.1, lv, lw, lp, omega (arith, r.at_position, r.bound, r.outs, c.requires.5, c.chunk-m.ensures.0))

pub loop-d-smaller : goal.loop-d-smaller
loop-d-smaller c = let l = c.loop-d in
    let r = l.invariant.0 in
    let t = c.loop-d-test.true in
    let p : 0 < length l.out - l.d = omega (arith, t) in
    omega (arith, c.chunk-m.ensures.0, c.chunk-m.ensures.2 p, r.outs, r.bound)

pub loop-d-preserved : goal.loop-d-preserved
loop-d-preserved c = let l = c.loop-d in
    let r = l.invariant.0 in
    let m = c.chunk-m.result in
    let z : l.d + m - l.d ≡ m = omega arith in
    let h : m ≤ length (drop l.d l.out) = simp length-drop (omega (arith, c.chunk-m.ensures.0)) in
    let lo = length-take-le m (drop l.d l.out) h in
    let lv = length-take-le m l.v (omega (arith, l.invariant.1, c.requires.2.enough m c.chunk-m.ensures.1 (omega (arith, r.outs, c.chunk-m.ensures.0)))) in
    let lw = length-take-le m l.w (omega (arith, l.invariant.2, c.requires.3.enough m c.chunk-m.ensures.1 (omega (arith, r.outs, c.chunk-m.ensures.0)))) in
    let lp = length-take-le m l.pitch (omega (arith, l.invariant.3, c.requires.4.enough m c.chunk-m.ensures.1 (omega (arith, r.outs, c.chunk-m.ensures.0)))) in
    let b = rw (z, lo) at c.block-c.ensures in (
      run-turn _ _ _ _ _ _ l.c _ _ _ _ l.d m (l.d + m) _ _ _ _ _ r refl (omega (arith, r.outs, c.chunk-m.ensures.0)) (c.block-c.auto.out ∙ ap (λ (k : ℕ). length (take k (drop l.d l.out))) z ∙ lo) c.block-c.auto.cells c.block-c.auto.regs c.block-c.auto.scr b.0 b.1,
      simp (length-append, length-drop) (omega (arith, c.block-c.auto.v, lv, l.invariant.1, c.requires.2.enough m c.chunk-m.ensures.1 (omega (arith, r.outs, c.chunk-m.ensures.0)))),
      simp (length-append, length-drop) (omega (arith, c.block-c.auto.w, lw, l.invariant.2, c.requires.3.enough m c.chunk-m.ensures.1 (omega (arith, r.outs, c.chunk-m.ensures.0)))),
      simp (length-append, length-drop) (omega (arith, c.block-c.auto.pitch, lp, l.invariant.3, c.requires.4.enough m c.chunk-m.ensures.1 (omega (arith, r.outs, c.chunk-m.ensures.0)))),
    )

pub returns : goal.returns
returns c = let l = c.loop-d in
    run_end _ _ _ _ _ _ _ _ _ _ _ l.d l.invariant.0 (omega (arith, l.invariant.0.outs))
