-- The tables of an accepted sheet.
use Rattle.std.specs.Prelude.{List, ℕ, ◌+◌}
use Rattle.sheet.specs.Record.{kind, next}
use Rattle.layout.specs.Built.{role, begin, after}
use Rattle.layout.specs.Needs.{cells_from, registers_from, scratch_from}
use Rattle.layout.specs.Tables.{Table, Passed, role_code}

pub record Planned (s : List ℕ) (count : ℕ) (kinds nexts acts begins afters places words blocks : List ℕ) : Type 0 where
  pub passed : Passed s count
  pub kind_at : Table (kind s) count kinds
  pub next_at : Table (next s) count nexts
  pub act_at : Table (λ j. role_code (role s j)) count acts
  pub begin_at : Table (begin s) count begins
  pub after_at : Table (after s) count afters
  pub cells_at : Table (cells_from s) (count + 1) places
  pub registers_at : Table (registers_from s) (count + 1) words
  pub scratch_at : Table (scratch_from s) (count + 1) blocks
