-- A part of a list, and the list with another in its place.
use Rattle.std.specs.Prelude.{List, ◌++◌, ℕ, take, drop, Float}

abbrev pub mid : ℕ → ℕ → List Float → List Float
mid a n xs = take n (drop a xs)

abbrev pub put : ℕ → ℕ → List Float → List Float → List Float
put a n xs ys = take a xs ++ (ys ++ drop n (drop a xs))
