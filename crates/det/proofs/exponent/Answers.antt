use mathlib.Core.Path.{◌≡◌, sym, ap, ◌∙◌, subst}
use Prim.Native.Nat.{ℕ, ◌/◌, ◌%◌, ◌^◌, ◌<◌}
use native.Mathlib.Nat.{lt_of_le_of_lt}
use lib.IntN.{ℤ, pos, sub_ℕ, ◌-ℤ◌}
use lib.Dec.{T, lit<}
use lib.Signed.{lt_z}
use lib.Ieee.{binary64, fits, to_bits}
use mir.Syntax.{w32}
use mir.Val.{SFits, of_z, to_z}
use mir.ValLaws.{to_z-of_z, to_z_pos}
use Rattle.det.specs.Log.{exponent_of}
use Rattle.det.proofs.Parts.{Parts, parts, number, difference-fits, difference-small}
use Rattle.det.proofs.exponent.Goals as goal
use Rattle.det.proofs.exponent.Goals.{Start}

held : (c : Start) → T (fits binary64 c.args.x)
held c = subst T (sym c.well_formed.0.1) tt

abbrev field : Start → ℕ
field c = to_bits binary64 c.args.x / 2 ^ 52

view : (c : Start) → Parts c.args.x (field c) (to_bits binary64 c.args.x % 2 ^ 52)
view c = parts c.args.x (held c) c.requires

small : (c : Start) → field c < 2 ^ 31
small c = lt_of_le_of_lt (view c).most (lit< tt)

-- what the code's signed difference reads as
difference : (c : Start) → to_z w32 (field c) -ℤ pos 1023 ≡ sub_ℕ (field c) 1023
difference c = ap (λ (z : ℤ). z -ℤ pos 1023) (to_z_pos w32 (field c) (small c))

read : (c : Start) → to_z w32 (of_z w32 (to_z w32 (field c) -ℤ pos 1023)) ≡ sub_ℕ (field c) 1023
read c = ap (λ (z : ℤ). to_z w32 (of_z w32 z)) (difference c) ∙ to_z-of_z w32 (sub_ℕ (field c) 1023) (difference-fits (field c) (view c).most)

pub float_to_bits-field : goal.float_to_bits-field
float_to_bits-field c = number _ c.requires

pub overflow_cast-result : goal.overflow_cast-result
overflow_cast-result c = record { sfits = small c }

pub overflow_sub-result : goal.overflow_sub-result
overflow_sub-result c = subst (SFits w32) (sym (difference c)) (difference-fits (field c) (view c).most)

pub returns : goal.returns
returns c = subst (λ (z : ℤ). (z ≡ exponent_of c.args.x) × T (lt_z z (pos 1025))) (sym (read c)) ((view c).exponent, difference-small (field c) (view c).most)
