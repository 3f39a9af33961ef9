-- The records as a tree: `records s i` is record i with its chain beneath and what stands after it, 0 none. A chain is its spine.
use Rattle.std.specs.Prelude.{Bool, cond, List, [], ◌∷◌, ℕ, suc, max}
use Rattle.tree.specs.Tree.{Tree, nil, node}
use Rattle.tree.specs.Forest.{whole, root}
use Rattle.sheet.specs.Record.{count_of, kind, first, next}
use Rattle.sheet.specs.Kinds.{is_node}

abbrev pub records : List ℕ → ℕ → Tree
records s i = whole (first s) (next s) (count_of s) i

abbrev pub root_tree : List ℕ → Tree
root_tree s = root (first s) (next s) (count_of s)

-- the records along a chain
unfoldable pub spine : Tree → List ℕ
spine nil = []
spine (node i a b) = i ∷ spine b

-- how deep nodes nest: a node counts one more than its chain; values, modes and steps count nothing
unfoldable pub depth : (ℕ → Bool) → Tree → ℕ
depth is_node nil = 0
depth is_node (node i a b) = max (cond (is_node i) (suc (depth is_node a)) 0) (depth is_node b)

abbrev pub depth_of : List ℕ → ℕ
depth_of s = depth (λ i. is_node (kind s i)) (root_tree s)
