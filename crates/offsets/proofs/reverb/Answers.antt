-- `offsets::reverb` meets its contract. Assumes nothing.
use mathlib.Core.Path.{◌≡◌}
use mathlib.Core.List.{List}
use Prim.Native.Nat.{ℕ, ◌+◌, ◌≤◌}
use native.Mathlib.Omega.{arith}
use lib.ListN.{get_or}
use Rattle.lines.specs.Lines.{comb_line, allpass_line, reverb_lines}
use Rattle.sheet.specs.Checks.{sum}
use Rattle.layout.specs.Needs.{reverb_cells}
use Rattle.offsets.proofs.reverb.Goals as goal

-- the lengths and the stores, as the code adds them
abbrev added : List ℕ → ℕ
added l = get_or l 0 0 + get_or l 1 0 + get_or l 2 0 + get_or l 3 0 + get_or l 4 0 + get_or l 5 0 + get_or l 6 0 + get_or l 7 0 + get_or l 8 0 + get_or l 9 0 + 6

total : (l : List ℕ) (sr : ℕ) → l ≡ reverb_lines sr → ((k : ℕ) → (1 ≤ comb_line k sr) × (comb_line k sr ≤ 6491)) → ((k : ℕ) → (1 ≤ allpass_line k sr) × (allpass_line k sr ≤ 2420))
    → (added l ≡ reverb_cells sr) × (added l ≤ 48632)
unfolding sum
total l sr e a b = (rw e (omega arith), rw e (omega (arith, a 0, a 1, a 2, a 3, a 4, a 5, b 0, b 1, b 2, b 3)))

pub returns : goal.returns
returns c = let e = c.reverb_lens-lens.ensures in total _ _ e.0 e.1 e.2

pub overflow_add-combs : goal.overflow_add-combs
overflow_add-combs c = omega (arith, (total _ _ c.reverb_lens-lens.ensures.0 c.reverb_lens-lens.ensures.1 c.reverb_lens-lens.ensures.2).1)

pub overflow_add-combs-2 : goal.overflow_add-combs-2
overflow_add-combs-2 c = omega (arith, (total _ _ c.reverb_lens-lens.ensures.0 c.reverb_lens-lens.ensures.1 c.reverb_lens-lens.ensures.2).1)

pub overflow_add-combs-3 : goal.overflow_add-combs-3
overflow_add-combs-3 c = omega (arith, (total _ _ c.reverb_lens-lens.ensures.0 c.reverb_lens-lens.ensures.1 c.reverb_lens-lens.ensures.2).1)

pub overflow_add-combs-4 : goal.overflow_add-combs-4
overflow_add-combs-4 c = omega (arith, (total _ _ c.reverb_lens-lens.ensures.0 c.reverb_lens-lens.ensures.1 c.reverb_lens-lens.ensures.2).1)

pub overflow_add-combs-5 : goal.overflow_add-combs-5
overflow_add-combs-5 c = omega (arith, (total _ _ c.reverb_lens-lens.ensures.0 c.reverb_lens-lens.ensures.1 c.reverb_lens-lens.ensures.2).1)

pub overflow_add-result : goal.overflow_add-result
overflow_add-result c = omega (arith, (total _ _ c.reverb_lens-lens.ensures.0 c.reverb_lens-lens.ensures.1 c.reverb_lens-lens.ensures.2).1)

pub overflow_add-result-2 : goal.overflow_add-result-2
overflow_add-result-2 c = omega (arith, (total _ _ c.reverb_lens-lens.ensures.0 c.reverb_lens-lens.ensures.1 c.reverb_lens-lens.ensures.2).1)

pub overflow_add-result-3 : goal.overflow_add-result-3
overflow_add-result-3 c = omega (arith, (total _ _ c.reverb_lens-lens.ensures.0 c.reverb_lens-lens.ensures.1 c.reverb_lens-lens.ensures.2).1)

pub overflow_add-result-4 : goal.overflow_add-result-4
overflow_add-result-4 c = omega (arith, (total _ _ c.reverb_lens-lens.ensures.0 c.reverb_lens-lens.ensures.1 c.reverb_lens-lens.ensures.2).1)

pub overflow_add-result-5 : goal.overflow_add-result-5
overflow_add-result-5 c = omega (arith, (total _ _ c.reverb_lens-lens.ensures.0 c.reverb_lens-lens.ensures.1 c.reverb_lens-lens.ensures.2).1)
