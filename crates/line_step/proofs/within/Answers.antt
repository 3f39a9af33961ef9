-- `line_step::within` meets its contract. Assumes nothing.
use mathlib.Core.Path.{refl, sym}
use native.Mathlib.Nat.{mod-lt, mod-eq_of_lt}
use Rattle.line_step.proofs.within.Goals as goal

pub returns-then-i-len : goal.returns-then-i-len
returns-then-i-len c = (sym (mod-eq_of_lt c.if-i-len.true), c.if-i-len.true)

pub returns-else-i-len : goal.returns-else-i-len
returns-else-i-len c = (refl, mod-lt _ c.requires)
