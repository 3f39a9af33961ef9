-- Laws of kinds by their numbers, and of the room of a record. No function asks for them since a kind is an enum and a record a type; they stand since the definitions are over numbers.
use Rattle.std.specs.Prelude.{◌≡◌, false, ◌&&◌, List, ◌≢◌, ℕ, ◌+◌, ◌-◌, ◌*◌, ◌≤◌, ◌<◌, ltb, length, take, drop, replicate}
use Rattle.std.proofs.Common.{refl, arith, length-take, length-drop}
use borrow.Author.Tests.{ne_eqb, lt-ltb, le-ltb}
use Rattle.float.specs.Single.{zero as zero_f}
use Rattle.sheet.specs.Record.{kind}
use Rattle.layout.specs.Built.{role}
use Rattle.layout.specs.declared.Role.TheVariants.{Built}
use Rattle.layout.specs.Needs.{cells_by, registers_by}
use Rattle.unit.specs.Start.{start_cells, start_registers}
use Rattle.start.specs.Cells.{zero-start, zero-registers}

-- what lies from a record on is the record at least
pub record-room : (s : List ℕ) (i : ℕ) → 24 + 40 * (i + 1) ≤ length s → 40 ≤ length (take (length s - (24 + 40 * i)) (drop (24 + 40 * i) s))
record-room s i h = simp (length-take, length-drop) (omega arith)

module _ (s : List ℕ) (i : ℕ) where
  -- zeros, as many as are owned
  pub other-start : role s i ≡ Built → kind s i ≢ 6 → ltb 21 (kind s i) && ltb (kind s i) 29 ≡ false → kind s i ≢ 31 → kind s i ≢ 32 → kind s i ≢ 35 → kind s i ≢ 46
      → start_cells s i ≡ replicate (cells_by s i) zero_f
  other-start r z f a b c d = zero-start s i r refl (rw (ne_eqb (kind s i) 6 z, f, ne_eqb (kind s i) 31 a, ne_eqb (kind s i) 32 b, ne_eqb (kind s i) 35 c, ne_eqb (kind s i) 46 d))

  pub low-start : role s i ≡ Built → kind s i ≢ 6 → kind s i ≤ 21 → start_cells s i ≡ replicate (cells_by s i) zero_f
  low-start r d h = other-start r d (rw (le-ltb 21 (kind s i) h)) (omega arith) (omega arith) (omega arith) (omega arith)

  pub high-start : role s i ≡ Built → 29 ≤ kind s i → kind s i ≢ 31 → kind s i ≢ 32 → kind s i ≢ 35 → kind s i ≢ 46 → start_cells s i ≡ replicate (cells_by s i) zero_f
  high-start r h = let l : 21 < kind s i = omega arith in other-start r (omega arith) (rw (lt-ltb 21 (kind s i) l, le-ltb (kind s i) 29 h))

  -- ---- registers
  pub other-registers : role s i ≡ Built → kind s i ≢ 9 → kind s i ≢ 10 → kind s i ≢ 46 → start_registers s i ≡ replicate (registers_by s i) 0
  other-registers r a b c = zero-registers s i r refl (rw (ne_eqb (kind s i) 9 a, ne_eqb (kind s i) 10 b, ne_eqb (kind s i) 46 c))
