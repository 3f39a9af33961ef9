-- The cut theorem: what the machine plays and leaves depends on the accepted moves, on how many samples were made before each, and on how many are made in all; not on how the samples are cut into fills, nor on what was refused.
use Rattle.std.specs.Prelude.{Bool, refl, cond, ℕ, ◌+◌, eqb, length, Float}
use mathlib.Core.List.{List, [], ◌∷◌, ◌++◌, append_assoc}
use Rattle.control.specs.Moves.{pitch_moved, bend_moved}
use Rattle.sheet.specs.Record.{count_of}
use Rattle.machine.specs.Machine.{State, state, room_check, fill_check, samples, Answered, rested, scaled, Call, fill, pitch, bend, cutoff, call}
use Rattle.machine.specs.Lists as lists

-- ---- what a list of calls comes to
pub data Move : Type 0 where
  pitch_to : Float → Float → Move
  bend_to : Float → Move
  cutoff_to : Float → Move

-- how many samples a call asks for; the move that it is, if it is one, after t samples
abbrev pub asks : Call → ℕ
asks (fill n) = n
asks (pitch scale coefficient) = 0
asks (bend x) = 0
asks (cutoff x) = 0

abbrev pub move_at : ℕ → Call → List (ℕ × Move)
move_at t (fill n) = []
move_at t (pitch scale coefficient) = (t, pitch_to scale coefficient) ∷ []
move_at t (bend x) = (t, bend_to x) ∷ []
move_at t (cutoff x) = (t, cutoff_to x) ∷ []

-- of a call that came to r, which is accepted where it answers 0: how many samples it made, and its move
abbrev pub accepted : Answered × State → Bool
accepted r = eqb r.0.0 0

abbrev pub made : Call → Answered × State → ℕ
made k r = cond (accepted r) (asks k) 0

abbrev pub moved_at : ℕ → Call → Answered × State → List (ℕ × Move)
moved_at t k r = cond (accepted r) (move_at t k) []

-- how many samples the list makes
unfoldable pub total : List ℕ → List Call → State → ℕ
total s [] p = 0
total s (k ∷ ks) p = let r = call s k p in made k r + total s ks r.1

-- the accepted moves, each with how many samples were made before it: t before the list began
unfoldable pub plan_from : List ℕ → ℕ → List Call → State → List (ℕ × Move)
plan_from s t [] p = []
plan_from s t (k ∷ ks) p = let r = call s k p in moved_at t k r ++ plan_from s (t + made k r) ks r.1

abbrev pub plan : List ℕ → List Call → State → List (ℕ × Move)
plan s ks p = plan_from s 0 ks p

-- ---- what a move does
abbrev pub move_to : List ℕ → Move → State → State
move_to s (pitch_to scale coefficient) p = state (pitch_moved p.controls scale coefficient) p.cells p.registers p.scratch
move_to s (bend_to x) p = state (bend_moved p.controls x) p.cells p.registers p.scratch
move_to s (cutoff_to x) p = state p.controls (scaled s x (count_of s) p.cells) p.registers p.scratch

-- ---- the sample machine as one of the machines of Lists
-- moves of pitch and bend never refuse
abbrev pub check_for : List ℕ → lists.Call Move → State → ℕ
check_for s (lists.fill n) p = fill_check s n p
check_for s (lists.move (pitch_to scale coefficient)) p = 0
check_for s (lists.move (bend_to x)) p = 0
check_for s (lists.move (cutoff_to x)) p = room_check s (length p.cells) (length p.registers) (length p.scratch)

-- samples one after the other, shown as they are
abbrev pub in_a_row : lists.Output (List Float) (List Float)
in_a_row = record { none = []; join = ◌++◌; join_none = λ l. refl; join_assoc = append_assoc; shown = λ l. l; empty = []; also = ◌++◌; shown_none = refl; shown_join = λ a b. refl }

abbrev pub sample_machine : List ℕ → lists.Machine State (List Float) (List Float) Move
sample_machine s = record { output = in_a_row; check = check_for s; samples = samples s; rested = rested s; move_to = move_to s }

-- a call as one of its calls
abbrev pub view : Call → lists.Call Move
view (fill n) = lists.fill n
view (pitch scale coefficient) = lists.move (pitch_to scale coefficient)
view (bend x) = lists.move (bend_to x)
view (cutoff x) = lists.move (cutoff_to x)
