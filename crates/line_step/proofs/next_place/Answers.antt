-- `line_step::next_place` meets its contract. Assumes nothing.
use mathlib.Core.Path.{◌≡◌, sym, ap, ◌∙◌}
use Prim.Native.Nat.{ℕ, ◌+◌, ◌%◌, ◌<◌, ◌≤◌}
use native.Mathlib.Nat.{mod-eq_of_lt, mod_self}
use native.Mathlib.Omega.{arith}
use Rattle.line_step.proofs.next_place.Goals as goal

-- at the line's end the next place is its length
last : (w len : ℕ) → w < len → len ≤ w + 1 → len ≡ w + 1
last w len h g = omega arith

some : (w len : ℕ) → w < len → 0 < len
some w len h = omega arith

pub returns-then-next-len : goal.returns-then-next-len
returns-then-next-len c = (sym (mod-eq_of_lt c.if-next-len.true), c.if-next-len.true)

pub returns-else-next-len : goal.returns-else-next-len
returns-else-next-len c =
    let a = c.args in
    let h : a.w < a.len = c.requires in
    (sym (mod_self a.len) ∙ ap (λ (n : ℕ). n % a.len) (last a.w a.len h c.if-next-len.false), some a.w a.len h)
