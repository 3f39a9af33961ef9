use mathlib.Core.Path.{◌≡◌, sym, ap, ◌∙◌, subst}
use mathlib.Core.Bool.{not}
use Prim.Native.Nat.{ℕ, ◌+◌, ◌-◌, ◌*◌, ◌/◌, ◌%◌, ◌^◌}
use native.Mathlib.Nat.{mod-lt}
use lib.Dec.{T}
use lib.Pow.{pow_pos}
use lib.Bits.{bit_and, bit_or, or_shifted_r}
use lib.Ieee.{binary64, fits, to_bits, of_bits, nan_bits}
use Rattle.ieee.proofs.Read.{low-are}
use Rattle.det.proofs.Parts.{Parts, parts, number, mantissa-number}
use Rattle.det.proofs.mantissa.Goals as goal
use Rattle.det.proofs.mantissa.Goals.{Start}

held : (c : Start) → T (fits binary64 c.args.x)
held c = subst T (sym c.well_formed.0.1) tt

abbrev b : Start → ℕ
b c = to_bits binary64 c.args.x

view : (c : Start) → Parts c.args.x (b c / 2 ^ 52) (b c % 2 ^ 52)
view c = parts c.args.x (held c) c.requires

-- the digits under the field of 2 ^ 0
masked : (c : Start) → bit_or (bit_and (b c) (2 ^ 52 - 1)) (1023 * 2 ^ 52) ≡ 1023 * 2 ^ 52 + b c % 2 ^ 52
masked c = ap (λ (z : ℕ). bit_or z (1023 * 2 ^ 52)) (low-are 52 (b c)) ∙ or_shifted_r 1023 52 (b c % 2 ^ 52) (mod-lt (b c) (pow_pos 52))

pub float_to_bits-result : goal.float_to_bits-result
float_to_bits-result c = number _ c.requires

pub float_from_bits-result : goal.float_from_bits-result
float_from_bits-result c = subst (λ (n : ℕ). T (not (nan_bits binary64 n))) (sym (masked c)) (mantissa-number (b c % 2 ^ 52) (mod-lt (b c) (pow_pos 52)))

pub returns : goal.returns
returns c = ap (of_bits binary64) (masked c) ∙ (view c).mantissa
