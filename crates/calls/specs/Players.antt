-- A player: anyone who makes public calls in a row, on the controls and the lent memory that the call before left. What is said of each call is its contract, and no more.
use Rattle.std.specs.Prelude.{◌≡◌, cond, List, [], ℕ, eqb, length, Float}
use mathlib.Core.List.{map}
use Rattle.control.specs.declared.Controls.{Controls}
use Rattle.control.specs.Moves.{pitch_moved, bend_moved}
use Rattle.machine.specs.Machine.{State, state, Answered, Call}
use Rattle.machine.specs.Lists as lists
use Rattle.machine.specs.Cut.{Move, pitch_to, bend_to, cutoff_to, sample_machine, view}
use Rattle.calls.specs.Calls.{Fills, Cuts}

-- ONE PUBLIC CALL, by its contract: from p it answers and makes a, and leaves q
pub data Step (s : List ℕ) : lists.Call Move → State → Answered → State → Type 0 where
  filled : {c r : Controls} {xs cs zs ys ds ws : List Float} {rs ss : List ℕ} {a : ℕ} → Fills s c xs cs rs zs a r ys ds ss ws
      → Step s (lists.fill (length xs)) (state c cs rs zs) (a, cond (eqb a 0) ys []) (state r ds ss ws)
  scaled : {c : Controls} {x : Float} {cs zs ds : List Float} {rs : List ℕ} {a : ℕ} → Cuts s x cs (length rs) (length zs) a ds
      → Step s (lists.move (cutoff_to x)) (state c cs rs zs) (a, []) (state c ds rs zs)
  pitched : {c r : Controls} {x g : Float} {cs zs : List Float} {rs : List ℕ} → r ≡ pitch_moved c x g → Step s (lists.move (pitch_to x g)) (state c cs rs zs) (0, []) (state r cs rs zs)
  bent : {c r : Controls} {x : Float} {cs zs : List Float} {rs : List ℕ} → r ≡ bend_moved c x → Step s (lists.move (bend_to x)) (state c cs rs zs) (0, []) (state r cs rs zs)

-- THE CALLS OF A LIST, each on what the one before left: from p they answer and make b, and leave q
abbrev pub Run : List ℕ → List Call → State → List ℕ × List Float → State → Type 0
Run s ks = lists.Run (sample_machine s) (Step s) (map view ks)
