-- A value record, read into one of six cases with its own floats, by its kind, 41 to 46. Options follow the orders of the Rust's enums.
use Rattle.std.specs.Prelude.{cond, List, ℕ, eqb}
use Rattle.dsl.specs.Options.{curve_of, shape_of}
use Rattle.dsl.specs.declared.Adsr.{Adsr}
use Rattle.sheet.specs.Record.{kind_of, option_of, first_of, number_of}
use Rattle.sheet.specs.declared.Value.{Value}
use Rattle.sheet.specs.declared.Value.TheVariants.{Const, Slide, Lfo, Arp, EnvMod, Rand}

-- an envelope is the first five numbers of its record
abbrev pub adsr_in : List ℕ → Adsr
adsr_in r = record { a = number_of r 0; d = number_of r 1; s = number_of r 2; r = number_of r 3; punch = number_of r 4 }

-- a kind that is no value's is read as a Const
unfoldable pub value_as : ℕ → List ℕ → Value
value_as k r =
    let n = number_of r in
    cond (eqb k 42) (Slide (record { from = n 0; to = n 1; secs = n 2; curve = curve_of (option_of r) }))
    (cond (eqb k 43) (Lfo (record { shape = shape_of (option_of r); rate = n 0; depth = n 1; center = n 2 }))
    (cond (eqb k 44) (Arp (n 0) (first_of r))
    (cond (eqb k 45) (EnvMod (record { env = adsr_in r; from = n 5; to = n 6 }))
    (cond (eqb k 46) (Rand (record { from = n 0; to = n 1; rate = n 2 }))
    (Const (n 0))))))

-- by the record's own kind
abbrev pub value_of : List ℕ → Value
value_of r = value_as (kind_of r) r
