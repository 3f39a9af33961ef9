-- A place is inside its line, and a line inside the cells, for the indices and the sums of the combs and the allpasses.
use Rattle.std.specs.Prelude.{List, ℕ, ◌+◌, ◌≤◌, ◌<◌, length, Float}
use Rattle.block.specs.Iterate.{word}
use Rattle.reverb_block.specs.Lines.{LineAt, line-inside}

module _ (lens rs : List ℕ) (ls : List Float) (from k : ℕ) (a : LineAt lens rs ls from k) (b : k < 10) where
  pub place_inside : word rs k < word lens k
  place_inside = (line-inside a b).0

  pub cell_inside : from + word rs k < length ls
  cell_inside = (line-inside a b).1

  pub line_inside : from + word lens k ≤ length ls
  line_inside = (line-inside a b).2

pub ruleset inside = (place_inside, cell_inside, line_inside)
