-- What lies past the needs of a sheet stays as it was.
use Rattle.std.specs.Prelude.{◌≡◌, List, ℕ, drop}
use Rattle.sheet.specs.Record.{count_of}
use Rattle.layout.specs.Needs.{cells_from, registers_from, scratch_from}
use Rattle.unit.specs.Own.{Own}
use Rattle.machine.specs.Machine.{State}

-- past the needs q is as p: of cells and registers, and of a whole state
pub record Past (s : List ℕ) (p q : Own) : Type 0 where
  pub cells : drop (cells_from s (count_of s)) q.0 ≡ drop (cells_from s (count_of s)) p.0
  pub registers : drop (registers_from s (count_of s)) q.1 ≡ drop (registers_from s (count_of s)) p.1

pub record Kept (s : List ℕ) (p q : State) : Type 0 where
  pub own : Past s (p.cells, p.registers) (q.cells, q.registers)
  pub scratch : drop (scratch_from s (count_of s)) q.scratch ≡ drop (scratch_from s (count_of s)) p.scratch
