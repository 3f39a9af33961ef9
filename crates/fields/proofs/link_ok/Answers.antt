-- `fields::link_ok` meets its contract: 0 is below n too. Assumes nothing.
use mathlib.Core.Path.{◌≡◌}
use mathlib.Core.Bool.{◌&&◌, ◌||◌}
use Prim.Native.Nat.{ℕ, ◌≤◌}
use native.Mathlib.Omega.{arith}
use native.Mathlib.Decide.{ℕ_discrete}
use lib.Dec.{eqb, ltb}
use borrow.Author.Tests.{eq-eqb, ne_eqb, lt-ltb}
use Rattle.sheet.specs.Checks.{link_ok}
use Rattle.fields.proofs.link_ok.Goals as goal

link-is : (i l n : ℕ) → 1 ≤ n → ((eqb l 0 || ltb i l) && ltb l n) ≡ link_ok i l n
unfolding link_ok
link-is i l n h = elim (ℕ_discrete l 0) [ yes e ↦ rw (eq-eqb l 0 e, lt-ltb l n (omega arith)) | no d ↦ rw (ne_eqb l 0 d) ]

pub returns : goal.returns
returns c = link-is _ _ _ c.requires
