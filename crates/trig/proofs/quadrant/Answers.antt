use mathlib.Core.Path.{◌≡◌, refl, ap, ◌∙◌}
use Prim.Native.Nat.{ℕ, suc, ◌-◌, ◌%◌, ◌^◌, ◌<◌}
use native.Mathlib.Omega.{arith}
use lib.IntN.{ℤ, pos, negsuc}
use mir.Syntax.{w64}
use mir.Val.{SFits, of_z}
use mir.ValLaws.{to_z-of_z}
use Rattle.trig.specs.Trig.{quadrant_of}
use Rattle.trig.proofs.quadrant.Goals as goal

modulo : (q : ℤ) → SFits w64 q → of_z w64 q % 4 ≡ quadrant_of q
unfolding quadrant_of
modulo (pos n) h = refl
modulo (negsuc n) h = go n h.sfits
  where
    go : (n : ℕ) → n < 2 ^ 63 → (2 ^ 64 - suc n) % 4 ≡ 3 - n % 4
    go n h = omega arith

pub returns : goal.returns
returns c =
    let q = c.args.q in
    ap (λ (n : ℕ). n % 4) c.cast_unsigned.ensures ∙ ap (λ (z : ℤ). of_z w64 z % 4) (to_z-of_z w64 q c.ranges.q) ∙ modulo q c.ranges.q
