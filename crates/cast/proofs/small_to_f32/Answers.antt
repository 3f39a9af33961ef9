-- `cast::small_to_f32` meets its contract: the machine reads the i32 back from its bits, and that is n.
use Rattle.std.proofs.Common.{◌≡◌, ℕ, ◌^◌, ◌<◌, T, ℤ, pos, sym, ap, subst, le_of_lt, arith, le→leb, w32, to_z}
use lib.Ieee.{binary32, in_float, of_int}
use mir.ValLaws.{to_z_pos}
use Rattle.cast.proofs.small_to_f32.Goals as goal

back : (n : ℕ) → n < 2 ^ 24 → to_z w32 n ≡ pos n
back n h = to_z_pos w32 n (omega arith)

pub int_to_float-result : goal.int_to_float-result
unfolding in_float
int_to_float-result c = subst (λ (z : ℤ). T (in_float binary32 z)) (sym (back _ c.requires)) (le→leb _ (2 ^ 24) (le_of_lt c.requires))

pub returns : goal.returns
returns c = ap (of_int binary32) (back _ c.requires)
