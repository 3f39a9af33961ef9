-- What check 6 says of the chains of an accepted sheet, link by link, and of those that are built.
use Rattle.std.specs.Prelude.{ℕ}
use mathlib.Core.List.{List, map}
use Rattle.sheet.specs.Record.{kind}
use Rattle.sheet.specs.Tree.{records, spine}

-- the kinds along the chain that begins at j
abbrev pub kinds_from : List ℕ → ℕ → List ℕ
kinds_from s j = map (kind s) (spine (records s j))
