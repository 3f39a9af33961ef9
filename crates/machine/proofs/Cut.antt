-- The cut theorem of the sample machine: what it plays and leaves depends on the accepted moves, on how many samples were made before each, and on how many are made in all; not on how the samples are cut into fills, nor on what was refused.
use Rattle.std.specs.Prelude.{◌≡◌, refl, Bool, true, false, cond, ℕ, zero, suc, ◌+◌, eqb, length, drop, replicate, Float}
use Rattle.std.proofs.Common.{sym, ap, ap₂, ◌∙◌, eqb-true, drop_at}
use mathlib.Core.List.{List, [], ◌∷◌, ◌++◌, map}
use native.Mathlib.Omega.{arith}
use Rattle.std.proofs.Math.Dec.{eqb-suc-zero}
use Rattle.std.proofs.lemmas.List.{length-replicate}
use Rattle.sheet.specs.Record.{count_of}
use Rattle.layout.specs.Needs.{scratch_from}
use Rattle.unit.specs.Own.{silence}
use Rattle.machine.specs.Machine.{State, state, room_check, fill_check, samples, Answered, cleared, rested, fill_of, cutoff_of, Call, fill, pitch, bend, cutoff, call, machine}
use Rattle.machine.proofs.Samples.{samples-add, with_scratch, samples-with-scratch}
use Rattle.machine.specs.Lists as lists
use Rattle.machine.specs.Cuts.{Lawful}
use Rattle.machine.proofs.Cuts as Cuts
use Rattle.machine.specs.Cut.{Move, pitch_to, bend_to, cutoff_to, move_to, asks, move_at, made, moved_at, plan, plan_from, total, sample_machine, view}

-- ---- what a call comes to: nothing, where it is refused; samples; or a move
pub data Outcome (s : List ℕ) (p : State) : Call → Answered × State → Type 0 where
  refusal : {k : Call} {a : ℕ} → eqb a 0 ≡ false → Outcome s p k ((a, []), p)
  filling : (n : ℕ) → fill_check s n p ≡ 0 → Outcome s p (fill n) ((0, (samples s n p).0), rested s n (samples s n p).1)
  moving : {k : Call} (m : Move) → asks k ≡ 0 → ((t : ℕ) → move_at t k ≡ (t, m) ∷ []) → Outcome s p k ((0, []), move_to s m p)

pub outcome : (s : List ℕ) (k : Call) (p : State) → Outcome s p k (call s k p)
unfolding call fill_of cutoff_of
outcome s (fill n) p = go (eqb (fill_check s n p) 0) refl
  where
    go : (b : Bool) → eqb (fill_check s n p) 0 ≡ b → Outcome s p (fill n) (fill_of s n p)
    go true e = rw e (filling n (eqb-true (fill_check s n p) 0 e))
    go false e = rw e (refusal e)
outcome s (pitch scale coefficient) p = moving (pitch_to scale coefficient) refl (λ t. refl)
outcome s (bend x) p = moving (bend_to x) refl (λ t. refl)
outcome s (cutoff x) p = go (eqb (room_check s (length p.cells) (length p.registers) (length p.scratch)) 0) refl
  where
    go : (b : Bool) → eqb (room_check s (length p.cells) (length p.registers) (length p.scratch)) 0 ≡ b → Outcome s p (cutoff x) (cutoff_of s x p)
    go true e = rw e (moving (cutoff_to x) refl (λ t. refl))
    go false e = rw e (refusal e)

-- ---- the sample machine is one of the machines of Lists
pub call-is : (s : List ℕ) (k : Call) (p : State) → call s k p ≡ lists.call (sample_machine s) (view k) p
unfolding call fill_of cutoff_of lists.call
call-is s (fill n) p = refl
call-is s (pitch scale coefficient) p = refl
call-is s (bend x) p = refl
call-is s (cutoff x) p = refl

pub machine-is : (s : List ℕ) (ks : List Call) (p : State) → machine s ks p ≡ lists.fed (sample_machine s) (map view ks) p
unfolding machine lists.fed
machine-is s [] p = refl
machine-is s (k ∷ ks) p =
    let a = call s k p in
    ap {B = (List ℕ × List Float) × State} (λ (w : (List ℕ × List Float) × State). ((a.0.0 ∷ w.0.0, a.0.1 ++ w.0.1), w.1)) (machine-is s ks a.1)
    ∙ ap {B = (List ℕ × List Float) × State} (λ (u : Answered × State). let w = lists.fed (sample_machine s) (map view ks) u.1 in ((u.0.0 ∷ w.0.0, u.0.1 ++ w.0.1), w.1)) (call-is s k p)

-- what a list of calls comes to is the same said of either
made-is : (s : List ℕ) (k : Call) (r : Answered × State) → made k r ≡ lists.made (sample_machine s) (view k) r
made-is s (fill n) r = refl
made-is s (pitch scale coefficient) r = refl
made-is s (bend x) r = refl
made-is s (cutoff x) r = refl

moved-is : (s : List ℕ) (t : ℕ) (k : Call) (r : Answered × State) → moved_at t k r ≡ lists.moved_at (sample_machine s) t (view k) r
moved-is s t (fill n) r = refl
moved-is s t (pitch scale coefficient) r = refl
moved-is s t (bend x) r = refl
moved-is s t (cutoff x) r = refl

pub total-is : (s : List ℕ) (ks : List Call) (p : State) → total s ks p ≡ lists.total (sample_machine s) (map view ks) p
unfolding total lists.total
total-is s [] p = refl
total-is s (k ∷ ks) p =
    let m = sample_machine s in
    ap₂ ◌+◌ (made-is s k (call s k p)) (total-is s ks (call s k p).1)
    ∙ ap (λ (u : Answered × State). lists.made m (view k) u + lists.total m (map view ks) u.1) (call-is s k p)

pub plan-is : (s : List ℕ) (t : ℕ) (ks : List Call) (p : State) → plan_from s t ks p ≡ lists.plan_from (sample_machine s) t (map view ks) p
unfolding plan_from lists.plan_from
plan-is s t [] p = refl
plan-is s t (k ∷ ks) p =
    let m = sample_machine s in
    let r = call s k p in
    ap₂ ◌++◌ (moved-is s t k r) (plan-is s (t + made k r) ks r.1)
    ∙ ap (λ (n : ℕ). lists.moved_at m t (view k) r ++ lists.plan_from m (t + n) (map view ks) r.1) (made-is s k r)
    ∙ ap (λ (u : Answered × State). lists.moved_at m t (view k) u ++ lists.plan_from m (t + lists.made m (view k) u) (map view ks) u.1) (call-is s k p)

-- ---- scratch plays no part, and cleared twice is cleared once
samples-rested : (s : List ℕ) (k n : ℕ) (p : State) → samples s n (rested s k p) ≡ ((samples s n p).0, rested s k (samples s n p).1)
samples-rested s k n p = samples-with-scratch s n (λ zs. (rested s k (with_scratch (λ us. zs) p)).scratch) p

move-rested : (s : List ℕ) (k : ℕ) (m : Move) (p : State) → move_to s m (rested s k p) ≡ rested s k (move_to s m p)
move-rested s k (pitch_to scale coefficient) p = refl
move-rested s k (bend_to x) p = refl
move-rested s k (cutoff_to x) p = refl

cleared-again : (s : List ℕ) (zs : List Float) → cleared s (cleared s zs) ≡ cleared s zs
cleared-again s zs =
    let n = scratch_from s (count_of s) in
    ap (λ (l : List Float). replicate n silence ++ l) (drop_at (replicate n silence) (drop n zs) n (length-replicate n silence))

rested-again : (s : List ℕ) (m n : ℕ) (p : State) → rested s n (rested s m p) ≡ rested s (m + n) p
rested-again s zero n p = let e : 0 + n ≡ n = omega arith in rw e
rested-again s (suc m) n p = let e : suc m + n ≡ suc (m + n) = omega arith in rw (e, eqb-suc-zero m, eqb-suc-zero (m + n)) (once (eqb n 0))
  where
    once : (b : Bool) → state p.controls p.cells p.registers (cond b (cleared s p.scratch) (cleared s (cleared s p.scratch)))
        ≡ state p.controls p.cells p.registers (cleared s p.scratch)
    once true = refl
    once false = ap (state p.controls p.cells p.registers) (cleared-again s p.scratch)

pub sample-laws : (s : List ℕ) → Lawful (sample_machine s)
unfolding samples
sample-laws s = record {
  samples_none = refl;
  samples_add = samples-add s;
  samples_rested = samples-rested s;
  move_rested = move-rested s;
  rested_none = λ p. refl;
  rested_again = rested-again s;
}

-- THE CUT THEOREM. Two lists over one sheet and state whose accepted moves are the same, in the same order, each after the same number of samples, and that make equally many samples in all:
-- they make the same samples, and leave the same controls, cells, registers and scratch.
pub cut : (s : List ℕ) (ks js : List Call) (p : State) → plan s ks p ≡ plan s js p → total s ks p ≡ total s js p
    → ((machine s ks p).0.1 ≡ (machine s js p).0.1) × ((machine s ks p).1 ≡ (machine s js p).1)
cut s ks js p e d = rw (machine-is s ks p, machine-is s js p)
    (Cuts.cut (sample_machine s) (sample-laws s) (map view ks) (map view js) p (sym (plan-is s 0 ks p) ∙ e ∙ plan-is s 0 js p) (sym (total-is s ks p) ∙ d ∙ total-is s js p))
