-- A loop over a block: where it begins, what a turn reads and leaves, and what stands when all samples are done.
use Rattle.std.proofs.Common.{◌≡◌, List, ℕ, ◌+◌, ◌≤◌, ◌<◌, length, get_or, set}
use Rattle.std.specs.Prelude.{Float}
use Rattle.std.specs.Float.{nan}
use native.Mathlib.Nat.{le_refl}
use Rattle.block.specs.Iterate.{given, after}
use Rattle.block.specs.Loop.{Going, going_start, going-turn, going_end}

module _ {S : Type 0} (f : ℕ → S → Float × S) (s : S) (xs ys : List Float) (n : ℕ) (u : S) where
  pub whole_read : Going nan f s xs n ys u → get_or ys n nan ≡ get_or xs n nan
  whole_read g = g.todo n (le_refl n)

  pub whole_turn : Going nan f s xs n ys u → n < length xs → (y : Float) (v : S) → y ≡ (f n u).0 → v ≡ (f n u).1 → Going nan f s xs (n + 1) (set ys n y) v
  whole_turn g h y v p q = going-turn nan f s xs g h p q

  pub whole_given : Going nan f s xs n ys u → length xs ≤ n → ys ≡ given f s (length xs)
  whole_given g h = (going_end nan f s xs g h).0

  pub whole_after : Going nan f s xs n ys u → length xs ≤ n → u ≡ after f s (length xs)
  whole_after g h = (going_end nan f s xs g h).1

pub ruleset loops = (going_start, whole_read, whole_turn, whole_given, whole_after)
