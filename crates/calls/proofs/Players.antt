-- What anyone has who makes public calls in a row: the answers, samples and numbers that the sample machine has for the same list.
use Rattle.std.specs.Prelude.{◌≡◌, refl, Bool, true, false, List, [], ℕ, eqb, length, Float}
use Rattle.std.proofs.Common.{sym, ap, subst, ◌∙◌, eqb-true}
use Rattle.control.specs.declared.Controls.{Controls}
use Rattle.sheet.specs.Checks.{check_of}
use Rattle.machine.specs.Machine.{State, state, room_check, Answered, fill_of, Call, machine}
use Rattle.machine.specs.Lists as lists
use Rattle.machine.proofs.Lists as laws
use Rattle.machine.specs.Cut.{Move, cutoff_to, plan, total, sample_machine}
use Rattle.machine.proofs.Cut.{machine-is, cut}
use Rattle.machine.specs.ByList.{Ahead, asked, moves_in}
use Rattle.machine.proofs.ByList.{cut-lists}
use Rattle.machine.specs.Past.{Kept}
use Rattle.machine.proofs.Past.{machine-past}
use Rattle.calls.specs.Calls.{Cuts as Scales}
use Rattle.calls.specs.Players.{Step, filled, scaled, pitched, bent, Run}

module _ (s : List ℕ) where
  cutoff-is : (x : Float) (c : Controls) (cs : List Float) (rs : List ℕ) (zs : List Float) (a : ℕ) (ds : List Float) → Scales s x cs (length rs) (length zs) a ds
      → ◌≡◌ {A = Answered × State} ((a, []), state c ds rs zs) (lists.call (sample_machine s) (lists.move (cutoff_to x)) (state c cs rs zs))
  unfolding lists.call
  cutoff-is x c cs rs zs a ds f = go (eqb a 0) refl
    where
      go : (b : Bool) → eqb a 0 ≡ b → ◌≡◌ {A = Answered × State} ((a, []), state c ds rs zs) (lists.call (sample_machine s) (lists.move (cutoff_to x)) (state c cs rs zs))
      go true e =
          let q : eqb (room_check s (length cs) (length rs) (length zs)) 0 ≡ true = rw (← f.answer) e in
          rw (q, f.cells, e, eqb-true a 0 e)
      go false e =
          let q : eqb (room_check s (length cs) (length rs) (length zs)) 0 ≡ false = rw (← f.answer) e in
          rw (q, f.cells, e, ← f.answer)

  fill-is : (n : ℕ) (p : State) → fill_of s n p ≡ lists.call (sample_machine s) (lists.fill n) p
  unfolding lists.call fill_of
  fill-is n p = refl

  step-is : (k : lists.Call Move) (p q : State) (a : Answered) → Step s k p a q → ◌≡◌ {A = Answered × State} (a, q) (lists.call (sample_machine s) k p)
  unfolding lists.call
  step-is k p q a (filled {c} {xs = xs} {cs} {zs} {rs = rs} f) = f.is ∙ fill-is (length xs) (state c cs rs zs)
  step-is k p q a (scaled {c} {x} {cs} {zs} {ds} {rs} {a = n} f) = cutoff-is x c cs rs zs n ds f
  step-is k p q a (pitched e) = rw e
  step-is k p q a (bent e) = rw e

  -- THE WHOLE LIST: what a player answers, makes and leaves is the machine's
  pub run-is : (ks : List Call) (p q : State) (b : List ℕ × List Float) → Run s ks p b q → ◌≡◌ {A = (List ℕ × List Float) × State} (b, q) (machine s ks p)
  run-is ks p q b r = laws.run-is (sample_machine s) (Step s) step-is r ∙ sym (machine-is s ks p)

  -- two lists for which the machine makes and leaves the same
  same-runs : (ks js : List Call) (p q t : State) (b d : List ℕ × List Float) → Run s ks p b q → Run s js p d t
      → ((machine s ks p).0.1 ≡ (machine s js p).0.1) × ((machine s ks p).1 ≡ (machine s js p).1) → (b.1 ≡ d.1) × (q ≡ t)
  same-runs ks js p q t b d l r h =
      let u = run-is ks p q b l in
      let v = run-is js p t d r in (
        ap (λ (w : (List ℕ × List Float) × State). w.0.1) u ∙ h.0 ∙ sym (ap (λ (w : (List ℕ × List Float) × State). w.0.1) v),
        ap (λ (w : (List ℕ × List Float) × State). w.1) u ∙ h.1 ∙ sym (ap (λ (w : (List ℕ × List Float) × State). w.1) v),
      )

  -- TWO PLAYERS who cut one performance differently share every sample and number
  pub two-players : (ks js : List Call) (p q t : State) (b d : List ℕ × List Float) → Run s ks p b q → Run s js p d t
      → plan s ks p ≡ plan s js p → total s ks p ≡ total s js p → (b.1 ≡ d.1) × (q ≡ t)
  two-players ks js p q t b d l r e n = same-runs ks js p q t b d l r (cut s ks js p e n)

  -- the same, by the lists alone: on an accepted sheet, from a valid state with positions left for all that is asked for
  pub two-by-lists : check_of s ≡ 0 → (ks js : List Call) (p q t : State) (b d : List ℕ × List Float) → Run s ks p b q → Run s js p d t
      → Ahead s (asked ks) p → moves_in ks ≡ moves_in js → asked ks ≡ asked js → (b.1 ≡ d.1) × (q ≡ t)
  two-by-lists e ks js p q t b d l r h m n = same-runs ks js p q t b d l r (cut-lists s e ks js p h m n)

  -- NOTHING PAST THE NEEDS, whatever a player calls
  pub run-past : (ks : List Call) (p q : State) (b : List ℕ × List Float) → Run s ks p b q → Kept s p q
  run-past ks p q b r = subst (Kept s p) (sym (ap (λ (w : (List ℕ × List Float) × State). w.1) (run-is ks p q b r))) (machine-past s ks p)
