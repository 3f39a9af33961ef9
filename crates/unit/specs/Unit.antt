-- The unit of a record of a sheet: what it plays in a sample.
use Rattle.std.specs.Prelude.{cond, List, map, ℕ, ltb, pos, Float}
use Rattle.std.specs.Float.{binary32}
use Rattle.std.specs.Float.Ieee.{of_int}
use Rattle.sheet.specs.Record.{rate_of, length_of, number_of, record_at, kind, first}
use Rattle.sheet.specs.Tree.{records, spine}
use Rattle.sheet.specs.Value.{value_of}
use Rattle.layout.specs.Built.{role, is_built}
use Rattle.layout.specs.Needs.{chain_length}
use Rattle.unit.specs.Own.{Ugen, silent_unit}
use Rattle.unit.specs.Values.{value_unit}
use Rattle.unit.specs.Sources.{source_unit}
use Rattle.unit.specs.Processors.{processor_unit}

-- the numbers of the Step records in record i's chain, in order
abbrev pub steps_of : List ℕ → ℕ → List Float
steps_of s i = map (λ j. number_of (record_at s j) 0) (spine (records s (first s i)))

abbrev pub srf : List ℕ → Float
srf s = of_int binary32 (pos (rate_of s))

-- sources are kinds up to 13, processors up to 35, values from 41 on
unfoldable pub kind_unit : List ℕ → ℕ → Ugen
kind_unit s i =
    let k = kind s i in
    let r = record_at s i in
    cond (ltb k 21) (source_unit r (srf s) (length_of s) k)
    (cond (ltb k 41) (processor_unit r (rate_of s) (chain_length s i) k)
    (value_unit (value_of r) (steps_of s i) (srf s) (length_of s)))

-- a record that is not built, as a processor in a source's place, plays silence
unfoldable pub unit_of : List ℕ → ℕ → Ugen
unit_of s i = cond (is_built (role s i)) (kind_unit s i) silent_unit
