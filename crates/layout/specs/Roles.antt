-- What is built of an accepted sheet: roles by owners, the end of a Chain that is built, and where it begins.
use Rattle.std.specs.Prelude.{List}
use Prim.Native.Nat.{ℕ}
use Rattle.sheet.specs.Tree.{records}
use Rattle.layout.specs.Built.{stage}

-- the stage from which the chain that begins at j is built
abbrev pub stage_from : List ℕ → ℕ → ℕ
stage_from s j = stage s (records s j)
