use mathlib.Core.Path.{◌≡◌, refl, ap, ◌∙◌}
use Prim.Native.Nat.{ℕ, zero, suc}
use native.Mathlib.Omega.{arith}
use lib.Ieee.{Float, neg}
use Rattle.trig.specs.Trig.{turned, cos_poly}
use Rattle.trig.proofs.turn.Goals as goal

-- the last arm
rest : (k : ℕ) (a : Float) → (k ≡ 0 → ⊥) → (k ≡ 1 → ⊥) → (k ≡ 2 → ⊥) → neg (cos_poly a) ≡ turned k a
unfolding turned
rest zero a f g h = absurd (f refl)
rest (suc zero) a f g h = absurd (g refl)
rest (suc (suc zero)) a f g h = absurd (h refl)
rest (suc (suc (suc k))) a f g h = refl

pub returns-in-0 : goal.returns-in-0
unfolding turned
returns-in-0 c = rw (c.in-0.is, c.sin_poly.ensures)

pub returns-in-1 : goal.returns-in-1
unfolding turned
returns-in-1 c = rw (c.in-1.is, c.cos_poly.ensures)

pub returns-in-2 : goal.returns-in-2
unfolding turned
returns-in-2 c = rw (c.in-2.is, c.sin_poly-in-2.ensures)

pub returns-in_default : goal.returns-in_default
returns-in_default c = ap neg c.cos_poly-in_default.ensures ∙ rest c.args.k c.args.a (λ e. omega arith) (λ e. omega arith) (λ e. omega arith)
