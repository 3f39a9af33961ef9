-- Laws of processors by their numbers. No function asks for them since a kind is an enum; they stand since the definitions are over numbers.
use Rattle.std.specs.Prelude.{◌≡◌, List, ◌≢◌, ℕ, ◌+◌, ◌-◌, ◌*◌, ◌/◌, ◌≤◌, ◌<◌, length, take, Float}
use Rattle.std.proofs.Common.{sym, ap, ◌∙◌, arith, length-drop}
use Rattle.std.proofs.Math.Decide.{ℕ_discrete}
use Rattle.std.proofs.Math.Nat.{mul-div_right}
use borrow.Author.Tests.{le-ltb, lt-ltb, ne_eqb}
use Rattle.sheet.specs.Record.{rate_of, record_at}
use Rattle.sheet.specs.Laws.{rest}
use Rattle.layout.specs.Good.{good}
use Rattle.layout.specs.Needs.{need_of, chain_length}
use Rattle.unit.specs.Processors.{processor_unit}
use Rattle.unit.specs.Unit.{kind_unit}
use Rattle.unit.specs.Block.{Lent}
use Rattle.unit.specs.Laws.{filter-need}
use Rattle.unit.specs.Lent.{lent-cells}

-- of those with a value, the filters have eleven cells and Drive four
pub record FitsValue (k : ℕ) (cs : List Float) : Type 0 where
  pub filter : 22 ≤ k → k ≤ 28 → length cs ≡ 11
  pub drive : k ≡ 32 → length cs ≡ 4

pub fits-value : {s : List ℕ} {i k nr : ℕ} {cs : List Float} → Lent s i k (length cs) nr → FitsValue k cs
unfolding need_of
fits-value {s} {i} {k} {nr} {cs} a = record {
  filter = λ l h. a.cells ∙ filter-need s i (omega (arith, a.kind_is)) (omega (arith, a.kind_is));
  drive = λ e. lent-cells a 32 e;
}

-- where the record lies
pub record Inside (s : List ℕ) (i : ℕ) : Type 0 where
  pub low : i < 256
  pub fits : 24 + 40 * i + 40 ≤ length s
  pub rate : rate_of s ≤ 192000
  pub part : 40 ≤ length (take (length s - (24 + 40 * i)) (record_at s i))

pub inside : {s : List ℕ} {i k nc nr : ℕ} → Lent s i k nc nr → Inside s i
inside {s} {i} a =
    let g = good s a.passed in
    record {
      low = omega (arith, g.small, a.inside);
      fits = omega (arith, g.long, a.inside);
      rate = g.fastest;
      part = omega (arith, ap length (rest s (24 + 40 * i)), length-drop (24 + 40 * i) s, g.long, a.inside);
    }

-- ---- the unit of a processor's record, of which r is the part of the sheet; how many modes there are counts for Modal only
pub modes-only : (r : List ℕ) (sr k m n : ℕ) → (k ≡ 31 → m ≡ n) → processor_unit r sr m k ≡ processor_unit r sr n k
unfolding processor_unit
modes-only r sr k m n e = elim (ℕ_discrete k 31) [ yes q ↦ ap (λ m. processor_unit r sr m k) (e q) | no d ↦ rw (ne_eqb k 31 d) ]

module _ {s : List ℕ} {i k nc nr : ℕ} (a : Lent s i k nc nr) where
  modes-of : k ≡ 31 → nc / 5 ≡ chain_length s i
  unfolding need_of
  modes-of e =
      let n : nc ≡ 5 * chain_length s i = lent-cells a 31 e in
      ap (λ n. n / 5) n ∙ mul-div_right (chain_length s i) (omega arith)

  pub unit-of : 21 ≤ k → k ≤ 35 → (r : List ℕ) (sr : ℕ) → r ≡ record_at s i → sr ≡ rate_of s → kind_unit s i ≡ processor_unit r sr (nc / 5) k
  unfolding kind_unit
  unit-of l h r sr er es =
      rw (er, es, ← a.kind_is, le-ltb k 21 l, lt-ltb k 41 (omega arith)) (sym (modes-only (record_at s i) (rate_of s) k (nc / 5) (chain_length s i) modes-of))

-- ---- the kind that the others of its group leave
pub is-compress : (k : ℕ) → k ≤ 35 → 29 ≤ k → k ≢ 29 → k ≢ 30 → k ≢ 31 → k ≢ 32 → k ≢ 33 → k ≢ 34 → k ≡ 35
is-compress k h l a b c d e f = omega arith

pub is-filter : (k : ℕ) → k ≤ 32 → 21 ≤ k → k ≢ 21 → k ≢ 29 → k ≢ 30 → k ≢ 31 → k ≢ 32 → (22 ≤ k) × (k ≤ 28)
is-filter k h l a b c d e = (omega arith, omega arith)
