-- What a record of a known kind is lent: where it lies in the sheet, and how many cells and registers.
use Rattle.std.specs.Prelude.{◌≡◌, List, ℕ, ◌+◌, ◌*◌, ◌≤◌, ◌<◌, length}
use Rattle.std.proofs.Common.{sym, ap, ◌∙◌, arith}
use Rattle.sheet.specs.Record.{rate_of, record_at}
use Rattle.layout.specs.Good.{good}
use Rattle.layout.specs.Needs.{chain_length}
use Rattle.layout.specs.Counts.{cells_with, cells-with, registers_with, registers-with}
use Rattle.unit.specs.Block.{Lent}

module _ {s : List ℕ} {i k nc nr : ℕ} (l : Lent s i k nc nr) where
  pub lent_in : (i < 256) × (24 + 40 * i + 40 ≤ length s)
  lent_in = let g = good s l.passed in (omega (arith, l.inside, g.small), omega (arith, l.inside, g.long))

  -- at the number of the kind
  pub lent-cells : (j : ℕ) → k ≡ j → nc ≡ cells_with (record_at s i) (rate_of s) j (chain_length s i)
  lent-cells j e = l.cells ∙ cells-with s i ∙ ap (λ k. cells_with (record_at s i) (rate_of s) k (chain_length s i)) (sym l.kind_is ∙ e)

  pub lent-registers : (j : ℕ) → k ≡ j → nr ≡ registers_with j
  lent-registers j e = l.registers ∙ registers-with s i ∙ ap registers_with (sym l.kind_is ∙ e)
