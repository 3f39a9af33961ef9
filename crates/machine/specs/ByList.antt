-- What the cut theorem of the sample machine takes from the two lists alone, where nothing is refused.
use Rattle.std.specs.Prelude.{◌≡◌, true, List, ℕ, ◌+◌, ◌^◌, ◌≤◌}
use mathlib.Core.List.{map}
use Rattle.machine.specs.Machine.{State, Call}
use Rattle.machine.specs.Lists as lists
use Rattle.machine.specs.Cut.{Move, view}
use Rattle.machine.specs.Valid.{valid_ok}

-- a valid state with n positions left
pub record Ahead (s : List ℕ) (n : ℕ) (p : State) : Type 0 where
  pub valid : valid_ok s p ≡ true
  pub left : p.controls.position + n ≤ 2 ^ 62

-- how many samples a list asks for, and its moves, each with how many samples are asked for before it
abbrev pub asked : List Call → ℕ
asked ks = lists.asked (map view ks)

abbrev pub moves_in : List Call → List (ℕ × Move)
moves_in ks = lists.moves_from {W = Unit {0}} (λ u m. 0) (λ u m. u) 0 tt (map view ks)
