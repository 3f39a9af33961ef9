-- What a player may rest on, of a sheet that no check refuses.
use Rattle.std.specs.Prelude.{◌≡◌, true, List, ◌≢◌, ℕ, ◌+◌, ◌≤◌, ◌<◌}
use Rattle.tree.specs.Tree.{In, Apart}
use Rattle.tree.specs.Forest.{Forest}
use Rattle.tree.specs.Flat.{Rows}
use Rattle.sheet.specs.Record.{count_of}
use Rattle.layout.specs.Built.{role, is_played, begin, after}
use Rattle.layout.specs.Needs.{cells, registers, scratch, cells_from, registers_from, scratch_from}
use Rattle.layout.specs.Played.{played_tree}
use Rattle.layout.specs.Counts.{layout_of}

-- ---- what is played, and where its parts lie
pub record Playable (s : List ℕ) : Type 0 where
  pub some : 0 < count_of s
  pub small : count_of s ≤ 256
  pub forest : Forest (begin s) (after s)
  pub begin_low : (i : ℕ) → begin s i ≢ 0 → begin s i < count_of s
  pub after_low : (i : ℕ) → after s i ≢ 0 → after s i < count_of s
  pub alone : after s 0 ≡ 0
  pub apart : Apart (played_tree s)
  pub all_in : (j : ℕ) → j < count_of s → is_played (role s j) ≡ true → In j (played_tree s)
  pub none_else : (j : ℕ) → In j (played_tree s) → (is_played (role s j) ≡ true) × (j < count_of s)
  pub rows : Rows (layout_of s)
  pub cells_end : (j : ℕ) → j < count_of s → cells_from s j + cells s j ≤ cells_from s (count_of s)
  pub registers_end : (j : ℕ) → j < count_of s → registers_from s j + registers s j ≤ registers_from s (count_of s)
  pub scratch_end : (j : ℕ) → j < count_of s → scratch_from s j + scratch s j ≤ scratch_from s (count_of s)
  -- a record's block of scratch lies below those of all higher records
  pub scratch_apart : (i j : ℕ) → i < j → scratch_from s i + scratch s i ≤ scratch_from s j
