use mathlib.Core.Path.{sym, ◌∙◌, subst}
use Prim.Native.Nat.{ℕ, ◌-◌, ◌^◌, ◌≤◌}
use native.Mathlib.Nat.{mod-le}
use lib.Dec.{T}
use lib.Bits.{bit_and}
use lib.Ieee.{binary64, to_bits}
use Rattle.ieee.proofs.Tests.{no, zero-by-zero-64}
use Rattle.ieee.proofs.Read.{low-are}
use Rattle.det.specs.Tanh.{tanh_of}
use Rattle.det.proofs.Sign.{Parted, parted}
use Rattle.det.proofs.tanh.Goals as goal
use Rattle.det.proofs.tanh.Goals.{Else-is_nan}

abbrev size : Else-is_nan → ℕ
size c = bit_and (to_bits binary64 c.args.x) 9223372036854775807

view : (c : Else-is_nan) → Parted c.args.x (size c) (to_bits binary64 c.args.x - size c)
view c =
    let x = c.args.x in
    subst (λ (z : ℕ). Parted x z (to_bits binary64 x - z)) (sym (low-are 63 (to_bits binary64 x))) (parted x (subst T (sym c.well_formed.0.1) tt) (sym c.is_nan.ensures.value ∙ c.if-is_nan.false))

pub returns-then-is_nan : goal.returns-then-is_nan
unfolding tanh_of
returns-then-is_nan c = zero-by-zero-64 ∙ rw (sym c.is_nan.ensures.value ∙ c.if-is_nan.true)

pub float_to_bits-bits : goal.float_to_bits-bits
float_to_bits-bits c = no (sym c.is_nan.ensures.value ∙ c.if-is_nan.false)

pub float_from_bits-size : goal.float_from_bits-size
float_from_bits-size c = (view c).size_number

pub overflow_sub-bits : goal.overflow_sub-bits
overflow_sub-bits c = subst (λ (z : ℕ). z ≤ to_bits binary64 c.args.x) (sym (low-are 63 (to_bits binary64 c.args.x))) (mod-le (to_bits binary64 c.args.x) (2 ^ 63))

pub overflow_add-bits : goal.overflow_add-bits
overflow_add-bits c = record { fits = (view c).sign_fits }

pub float_from_bits-bits : goal.float_from_bits-bits
float_from_bits-bits c = (view c).sign_number

pub tanh_above-requires : goal.tanh_above-requires
tanh_above-requires c = (view c).number

pub returns : goal.returns
returns c = c.tanh_above.ensures ∙ (view (goal.at.returns c).Else-is_nan).gives
