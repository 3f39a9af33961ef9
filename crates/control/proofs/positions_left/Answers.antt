use Rattle.std.proofs.Common.{◌≡◌, sym, ◌∙◌, ℕ, ◌+◌, ◌-◌, ◌≤◌, arith}
use native.Mathlib.Decide.{dec_lt}
use lib.Dec.{leb}
use borrow.Author.Tests.{le-leb, lt-leb}
use Rattle.control.specs.Moves.{left_for}
use Rattle.control.proofs.positions_left.Goals as goal

-- the sum may not fit a word, the difference does
moved : (p l m : ℕ) → l ≤ m → leb p (m - l) ≡ leb (p + l) m
moved p l m h = elim (dec_lt m (p + l)) [
  | yes g ↦ lt-leb p (m - l) (omega arith) ∙ sym (lt-leb (p + l) m g)
  | no g ↦ le-leb p (m - l) (omega arith) ∙ sym (le-leb (p + l) m (omega arith))
]

pub returns-then-length-le-POSITIONS : goal.returns-then-length-le-POSITIONS
unfolding left_for
returns-then-length-le-POSITIONS c = moved _ _ _ (omega arith)

pub returns-else-length-le-POSITIONS : goal.returns-else-length-le-POSITIONS
unfolding left_for
returns-else-length-le-POSITIONS c = lt-leb c.args.length _ (omega arith) ∙ sym (lt-leb (c.args.position + c.args.length) _ (omega arith))
