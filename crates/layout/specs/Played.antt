-- The links of what is played make a tree in which each played record stands once, and nothing else.
use Rattle.std.specs.Prelude.{List}
use Prim.Native.Nat.{ℕ}
use Rattle.tree.specs.Tree.{Tree}
use Rattle.tree.specs.Forest.{root}
use Rattle.sheet.specs.Record.{count_of}
use Rattle.layout.specs.Built.{begin, after}

abbrev pub played_tree : List ℕ → Tree
played_tree s = root (begin s) (after s) (count_of s)
