-- A number as hexadecimal text.
use Rattle.std.specs.Prelude.{ℕ, false, ◌-◌, List, ◌++◌, length, replicate}
use Rattle.std.specs.Fmt.{digits}

-- the digits of n, in lower case, after so many zeros that there are at least `width` of them
abbrev pub hex : ℕ → ℕ → List ℕ
hex width n = replicate (width - length (digits 16 false n)) 48 ++ digits 16 false n
