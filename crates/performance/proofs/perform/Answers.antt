use Rattle.std.specs.Prelude.{◌≡◌, refl, Result, Ok, Err, ℕ, ◌+◌, ◌-◌, ◌≤◌, get_or, length, take, drop}
use Rattle.std.specs.Result.{result_unwrap_or}
use Rattle.std.proofs.Common.{sym, ap, ap₂, ◌∙◌, arith, length-drop, length-take-le}
use Rattle.control.specs.declared.Controls.{Controls}
use Rattle.refusal.specs.declared.Refusal.{Refusal}
use Rattle.machine.specs.Machine.{state}
use Rattle.calls.specs.Calls.{controls_of}
use Rattle.performance.specs.declared.Call.TheVariants.{Fill}
use Rattle.performance.specs.List.{play-start, play-turn, play-end, play-room, call_at, length_at, call-took, took_of}
use Rattle.performance.proofs.perform.Goals as goal

unwrapped : (c : Controls) (r : Result Controls Refusal) → result_unwrap_or r c ≡ controls_of c r
unwrapped c (Ok d) = refl
unwrapped c (Err e) = refl

pub loop-k-init : goal.loop-k-init
loop-k-init c = play-start _ _ _ _ _ _ _ _ _

pub overflow_add-e : goal.overflow_add-e
overflow_add-e c =
    let l = c.loop-k in
    let e : c.length-n.result ≡ length_at c.args.calls.now l.k = c.length-n.ensures in
    let w = play-room (length_at c.args.calls.now) l.d l.k (length c.args.answers.now) (length c.args.out.now) l.invariant.spent c.loop-k-test.true c.requires.1 in
    omega (arith, w, e, l.invariant.outs)

pub slice_bounds-one_call-end : goal.slice_bounds-one_call-end
slice_bounds-one_call-end c =
    let l = c.loop-k in
    let e : c.length-n.result ≡ length_at c.args.calls.now l.k = c.length-n.ensures in
    let w = play-room (length_at c.args.calls.now) l.d l.k (length c.args.answers.now) (length c.args.out.now) l.invariant.spent c.loop-k-test.true c.requires.1 in
    omega (arith, w, e, l.invariant.outs)

pub loop-k-preserved : goal.loop-k-preserved
loop-k-preserved c =
    let l = c.loop-k in
    let w = play-room (length_at c.args.calls.now) l.d l.k (length c.args.answers.now) (length c.args.out.now) l.invariant.spent c.loop-k-test.true c.requires.1 in
    let n = length_at c.args.calls.now l.k in
    let e : c.length-n.result ≡ n = c.length-n.ensures in
    let z : l.d + c.length-n.result - l.d ≡ c.length-n.result = omega arith in
    let h : n ≤ length (drop l.d l.out) = simp length-drop (omega (arith, l.invariant.outs)) in
    let lp : length (take n (drop l.d l.out)) ≡ n = length-take-le n (drop l.d l.out) h in
    let o = rw (z, e) at c.one_call-r.ensures in
    let u = c.unwrap_or-c.ensures ∙ unwrapped l.c c.one_call-r.result in
    let t = call-took c.args.sheet.now (get_or c.args.calls.now l.k (Fill 0)) (state l.c l.cells l.regs l.scr) in
    rw (z, e, u, c.answer-a.ensures)
    (play-turn c.args.sheet.now (call_at c.args.calls.now) (length_at c.args.calls.now) _ _ _ _ _ _ l.c _ _ _ _ _ l.d l.k _ _ _ _ _ _ c.took-d.result
    l.invariant c.loop-k-test.true w o (c.one_call-r.auto.out ∙ ap (λ (j : ℕ). length (take j (drop l.d l.out))) (z ∙ e) ∙ lp)
    (c.took-d.ensures.0 ∙ ap₂ took_of o.answer e ∙ sym t) (rw e at c.took-d.ensures.1))

pub returns : goal.returns
returns c =
    let l = c.loop-k in
    play-end _ _ _ _ _ _ _ _ _ _ _ _ _ _ _ _ _ l.invariant (omega arith) (length c.args.calls.now) c.requires.0
