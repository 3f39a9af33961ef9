use mathlib.Core.Path.{◌≡◌, sym, ap, ◌∙◌, subst}
use mathlib.Core.Bool.{Bool, true, false, cond}
use Prim.Native.Nat.{ℕ, suc, ◌+◌, ◌-◌, ◌^◌, ◌<◌}
use native.Mathlib.Omega.{arith}
use lib.IntN.{ℤ, pos, negsuc, ◌+ℤ◌}
use lib.Dec.{T, ltb, ltb→lt}
use lib.Signed.{lt_z}
use lib.Ieee.{Float, binary64, of_int}
use mir.Syntax.{w32}
use mir.Val.{SFits, of_z, to_z}
use mir.ValLaws.{to_z-of_z}
use Rattle.double.specs.Double.{◌⊕◌, ◌⊗◌, half}
use Rattle.det.specs.Log.{ln_series, ln_folded}
use Rattle.det.proofs.ln_folded.Goals as goal
use Rattle.det.proofs.ln_folded.Goals.{Then-m}

next_fits : (k : ℤ) → SFits w32 k → T (lt_z k (pos 1025)) → SFits w32 (k +ℤ pos 1)
next_fits (pos n) f h = record { sfits = go n (ltb→lt n 1025 h) }
  where
    go : (n : ℕ) → n < 1025 → n + 1 < 2 ^ 31
    go n h = omega arith
next_fits (negsuc n) f h = go (ltb 1 (suc n))
  where
    low : (n : ℕ) → n < 2 ^ 31 → suc n - 2 < 2 ^ 31
    low n h = omega arith

    high : (n : ℕ) → 1 - suc n < 2 ^ 31
    high n = omega arith

    go : (t : Bool) → SFits w32 (cond t (negsuc (suc n - 2)) (pos (1 - suc n)))
    go true = record { sfits = low n f.sfits }
    go false = record { sfits = high n }

-- what the code's signed sum reads as
sum_is : (c : Then-m) → to_z w32 (of_z w32 c.args.k) +ℤ pos 1 ≡ c.args.k +ℤ pos 1
sum_is c = ap (λ (z : ℤ). z +ℤ pos 1) (to_z-of_z w32 c.args.k c.ranges.k)

pub overflow_add-k : goal.overflow_add-k
overflow_add-k c = subst (SFits w32) (sym (sum_is c)) (next_fits c.args.k c.ranges.k c.requires)

pub returns-then-m : goal.returns-then-m
unfolding ln_folded
returns-then-m c =
    let k = c.args.k in
    let read = ap (λ (z : ℤ). to_z w32 (of_z w32 z)) (sum_is (goal.at.returns-then-m c).Then-m) ∙ to_z-of_z w32 (k +ℤ pos 1) (next_fits k c.ranges.k c.requires) in
    c.ln_series.ensures ∙ ap (λ (z : Float). ln_series (c.args.m ⊗ half) (z ⊕ c.args.scale)) (c.from.ensures ∙ ap (of_int binary64) read) ∙ rw c.if-m.true

pub returns-else-m : goal.returns-else-m
unfolding ln_folded
returns-else-m c =
    c.ln_series-else-m.ensures ∙ ap (λ (z : Float). ln_series c.args.m (z ⊕ c.args.scale)) (c.from-else-m.ensures ∙ ap (of_int binary64) (to_z-of_z w32 c.args.k c.ranges.k)) ∙ rw c.if-m.false
