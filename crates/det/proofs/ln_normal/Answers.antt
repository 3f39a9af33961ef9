use mathlib.Core.Path.{sym, subst}
use lib.IntN.{ℤ, pos}
use lib.Dec.{T}
use lib.Signed.{lt_z}
use mir.Syntax.{w32}
use mir.ValLaws.{to_z-of_z}
use Rattle.det.proofs.ln_normal.Goals as goal

pub ln_folded-requires : goal.ln_folded-requires
ln_folded-requires c = subst (λ (z : ℤ). T (lt_z z (pos 1025))) (sym (to_z-of_z w32 c.exponent.result (record { sfits = c.exponent.type_inv }))) c.exponent.ensures.1

pub returns : goal.returns
returns c =
    rw (c.ln_folded.ensures, to_z-of_z w32 c.exponent.result (record { sfits = c.exponent.type_inv }), c.exponent.ensures.0, c.mantissa.ensures)
