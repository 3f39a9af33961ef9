-- Build: the call that starts a voice in lent memory. It answers like the others, and what it leaves is valid.
use Rattle.std.specs.Prelude.{cond, List, [], ◌++◌, eqb, length, drop, Float}
use Prim.Native.Nat.{ℕ, zero, suc}
use Rattle.tree.specs.Comm.{M}
use Rattle.control.specs.Moves.{fresh}
use Rattle.sheet.specs.Record.{count_of}
use Rattle.layout.specs.Built.{role, is_built}
use Rattle.layout.specs.Needs.{cells_from, registers_from}
use Rattle.unit.specs.Start.{start_cells, start_registers}
use Rattle.machine.specs.Machine.{State, state, room_check, Answered, cleared}

-- ---- what a voice starts with
-- the lists f 0 up to f (n - 1), one after the other
unfoldable pub joined : {A : Type 0} → (ℕ → List A) → ℕ → List A
joined f zero = []
joined f (suc n) = joined f n ++ f n

-- what record i brings: nothing where it is not built
abbrev pub brought_cells : List ℕ → ℕ → List Float
brought_cells s i = cond (is_built (role s i)) (start_cells s i) []

abbrev pub brought_registers : List ℕ → ℕ → List ℕ
brought_registers s i = cond (is_built (role s i)) (start_registers s i) []

-- the start values of the records below i
abbrev pub started_cells : List ℕ → ℕ → List Float
started_cells s i = joined (brought_cells s) i

abbrev pub started_registers : List ℕ → ℕ → List ℕ
started_registers s i = joined (brought_registers s) i

-- ---- THE CALL: refused by checks 1 to 8, and then nothing changes; else the voice is at its start, and what is lent past the need stays as it was
abbrev pub begun : List ℕ → State → State
begun s p =
    let n = count_of s in
    state fresh (started_cells s n ++ drop (cells_from s n) p.cells) (started_registers s n ++ drop (registers_from s n) p.registers) (cleared s p.scratch)

unfoldable pub build_of : List ℕ → M State Answered
build_of s p =
    let low = room_check s (length p.cells) (length p.registers) (length p.scratch) in
    cond (eqb low 0) ((0, []), begun s p) ((low, []), p)
