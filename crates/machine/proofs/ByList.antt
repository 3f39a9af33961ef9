-- The cut theorem of the sample machine by the lists alone: from a valid state of an accepted sheet, with positions left for all that is asked for, nothing is refused.
use Rattle.std.specs.Prelude.{◌≡◌, refl, true, List, [], ◌∷◌, ℕ, ◌+◌, ◌^◌, length, replicate, Float}
use Rattle.std.proofs.Common.{ap, ◌∙◌, arith, le-leb}
use Rattle.std.proofs.lemmas.List.{length-map}
use mathlib.Core.List.{map}
use Rattle.control.specs.Moves.{left_for, pitch_moved, bend_moved}
use Rattle.sheet.specs.Checks.{check_of, lowest}
use Rattle.sheet.specs.Laws.{both}
use Rattle.machine.specs.Machine.{State, room_check, sound_ok, fill_check, samples, rested, fill_of, cutoff_of, Call, fill, cutoff, call, machine}
use Rattle.machine.proofs.Samples.{samples-position}
use Rattle.machine.specs.Lists as lists
use Rattle.machine.specs.Cuts.{Foresight, Foreseen}
use Rattle.machine.proofs.Cuts as Cuts
use Rattle.machine.specs.Cut.{Move, pitch_to, bend_to, cutoff_to, move_to, check_for, plan, total, sample_machine, view}
use Rattle.machine.proofs.Cut.{machine-is, total-is, plan-is, sample-laws}
use Rattle.machine.proofs.Laws.{passed-fill}
use Rattle.machine.specs.Valid.{room_for, valid_ok}
use Rattle.machine.proofs.Valid.{valid-stays}
use Rattle.machine.specs.ByList.{Ahead, asked, moves_in}

none-told : (ks : List (lists.Call Move)) → lists.answers_from {W = Unit {0}} (λ u m. 0) (λ u m. u) tt ks ≡ replicate (length ks) 0
unfolding lists.answers_from
none-told [] = refl
none-told (lists.fill n ∷ ks) = ap (λ (l : List ℕ). 0 ∷ l) (none-told ks)
none-told (lists.move m ∷ ks) = ap (λ (l : List ℕ). 0 ∷ l) (none-told ks)

module _ (s : List ℕ) (e : check_of s ≡ 0) where
  fills : (n l : ℕ) (p : State) → Ahead s (n + l) p → (fill_check s n p ≡ 0) × Ahead s l (rested s n (samples s n p).1)
  unfolding call fill_of left_for
  fills n l p h =
      let b = both (room_for s p) (sound_ok s p.controls p.cells p.registers) h.valid in
      let z = passed-fill s n p (record { sheet = e; room = b.0; sound = b.1; left = le-leb (p.controls.position + n) (2 ^ 62) (omega (arith, h.left)) }) in
      (z, record { valid = rw z at (valid-stays s e (fill n) p h.valid); left = omega (arith, samples-position s n p, h.left) })

  cutoff-passes : (p : State) → valid_ok s p ≡ true → room_check s (length p.cells) (length p.registers) (length p.scratch) ≡ 0
  unfolding room_check lowest
  cutoff-passes p v = let b = both (room_for s p) (sound_ok s p.controls p.cells p.registers) v in rw (e, b.0)

  valid-moved : (x : Float) (p : State) → valid_ok s p ≡ true → valid_ok s (move_to s (cutoff_to x) p) ≡ true
  unfolding call cutoff_of
  valid-moved x p v = rw (cutoff-passes p v) at (valid-stays s e (cutoff x) p v)

  pub foresight : Foresight (sample_machine s) {W = Unit {0}} (λ u m. 0) (λ u m. u) (λ u n p. Ahead s n p)
  unfolding pitch_moved bend_moved
  foresight = record { fills = λ u n l p h. fills n l p h; moves = λ u m l p h. let r = moves m l p h in (r.0, λ t. r.1) }
    where
      moves : (m : Move) (l : ℕ) (p : State) → Ahead s l p → (check_for s (lists.move m) p ≡ 0) × Ahead s l (move_to s m p)
      moves (pitch_to x g) l p h = (refl, record { valid = h.valid; left = h.left })
      moves (bend_to x) l p h = (refl, record { valid = h.valid; left = h.left })
      moves (cutoff_to x) l p h = (cutoff-passes p h.valid, record { valid = valid-moved x p h.valid; left = h.left })

  ahead-foreseen : (ks : List Call) (p : State) → Ahead s (asked ks) p → Foreseen (sample_machine s) {W = Unit {0}} (λ u m. 0) (λ u m. u) 0 tt (map view ks) p
  ahead-foreseen ks p h = Cuts.foreseen (sample_machine s) foresight (map view ks) 0 tt p h

  -- NOTHING IS REFUSED, and the premises of the cut theorem are read off the list: how many samples it makes, and its plan
  pub answers-none : (ks : List Call) (p : State) → Ahead s (asked ks) p → (machine s ks p).0.0 ≡ replicate (length ks) 0
  answers-none ks p h = rw (machine-is s ks p) ((ahead-foreseen ks p h).answers ∙ none-told (map view ks) ∙ ap (λ (n : ℕ). replicate n 0) (length-map ks view))

  pub total-asked : (ks : List Call) (p : State) → Ahead s (asked ks) p → total s ks p ≡ asked ks
  total-asked ks p h = total-is s ks p ∙ (ahead-foreseen ks p h).made

  pub plan-moves : (ks : List Call) (p : State) → Ahead s (asked ks) p → plan s ks p ≡ moves_in ks
  plan-moves ks p h = plan-is s 0 ks p ∙ (ahead-foreseen ks p h).moved

  -- THE CUT, BY THE LISTS: the same moves in the same order, each after the same number of samples, and as many samples in all
  pub cut-lists : (ks js : List Call) (p : State) → Ahead s (asked ks) p → moves_in ks ≡ moves_in js → asked ks ≡ asked js
      → ((machine s ks p).0.1 ≡ (machine s js p).0.1) × ((machine s ks p).1 ≡ (machine s js p).1)
  cut-lists ks js p h m n = rw (machine-is s ks p, machine-is s js p) (Cuts.cut-lists (sample_machine s) foresight (sample-laws s) (map view ks) (map view js) tt p h m n)
