-- Check 9 of what a record owns: a ring place is below its line's length, a Rand phase is at least 0 and below 1.
use Rattle.std.specs.Prelude.{Bool, true, cond, ◌&&◌, List, ℕ, eqb, ltb, length}
use Rattle.std.specs.Float.Ieee.{lt, le}
use Rattle.float.specs.Single.{zero, one}
use Rattle.block.specs.Iterate.{at, word}
use Rattle.sheet.specs.Record.{count_of, rate_of, kind}
use Rattle.sheet.specs.Checks.{all}
use Rattle.tree.specs.Flat.{own}
use Rattle.lines.specs.Lines.{reverb_lines}
use Rattle.layout.specs.Built.{role, is_built}
use Rattle.layout.specs.Counts.{layout_of}
use Rattle.unit.specs.Own.{Own}

-- Delay and Chorus have one line, which is all their cells
abbrev pub place_ok : Own → Bool
place_ok o = ltb (word o.1 0) (length o.0)

abbrev pub places_ok : List ℕ → Own → Bool
places_ok lens o = all (λ k. ltb (word o.1 k) (word lens k)) 10

abbrev pub phase_ok : Own → Bool
phase_ok o = le zero (at o.0 2) && lt (at o.0 2) one

-- 29 Delay, 30 Reverb, 34 Chorus, 46 Rand
unfoldable pub own_ok : List ℕ → ℕ → Own → Bool
own_ok s i o =
    let k = kind s i in
    cond (eqb k 29) (place_ok o)
    (cond (eqb k 34) (place_ok o)
    (cond (eqb k 30) (places_ok (reverb_lines (rate_of s)) o)
    (cond (eqb k 46) (phase_ok o)
    true)))

-- of the built records, each with its own part of the cells and registers
abbrev pub record_ok : List ℕ → Own → ℕ → Bool
record_ok s o i = cond (is_built (role s i)) (own_ok s i (own (layout_of s) i o)) true

abbrev pub rings_ok : List ℕ → Own → Bool
rings_ok s o = all (record_ok s o) (count_of s)
