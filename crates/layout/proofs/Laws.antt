-- What a player may rest on, of a sheet that no check refuses.
use Rattle.std.specs.Prelude.{◌≡◌, List, ℕ}
use Rattle.sheet.specs.Checks.{check_of}
use Rattle.layout.specs.Needs.{scratch}
use Rattle.layout.specs.Good.{good}
use Rattle.layout.proofs.Played.{played-forest, begin-in, after-in, after-root, played-apart, played-in, in-played}
use Rattle.layout.specs.Counts.{rows_of, sum-above, cells-within, registers-within, scratch-within}
use Rattle.layout.specs.Laws.{Playable}

pub playable : (s : List ℕ) → check_of s ≡ 0 → Playable s
playable s e = let g = good s e in record {
  some = g.some;
  small = g.small;
  forest = played-forest s g;
  begin_low = begin-in s g;
  after_low = after-in s g;
  alone = after-root s g;
  apart = played-apart s g;
  all_in = played-in s g;
  none_else = λ j p. in-played s g p;
  rows = rows_of s;
  cells_end = cells-within s;
  registers_end = registers-within s;
  scratch_end = scratch-within s;
  scratch_apart = λ i j h. sum-above (scratch s) j i h;
}
