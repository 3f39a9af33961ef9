-- `cast::small_to_u64` meets its contract.
use Rattle.std.proofs.Common.{◌≡◌, ℕ, ◌+◌, ◌-◌, ◌≤◌, T, sym, subst, arith}
use lib.Ieee.{binary32, fits}
use Rattle.cast.proofs.Small.{Small, small, two-20}
use Rattle.cast.proofs.small_to_u64.Goals as goal
use Rattle.cast.proofs.small_to_u64.Goals.{Start}

held : (c : Start) → T (fits binary32 c.args.x)
held c = subst T (sym c.well_formed.0.1) tt

known : (c : Start) → Small c.args.x
known c = small c.args.x (held c) c.requires.least c.requires.most

less : (b n : ℕ) → b ≡ 1093664768 + n → 1093664768 ≤ b
less b n e = omega arith

left : (b n : ℕ) → b ≡ 1093664768 + n → b - 1093664768 ≡ n
left b n e = omega arith

pub float_to_bits-bits : goal.float_to_bits-bits
float_to_bits-bits c = rw (c.from.ensures, two-20) (known c.before).number

pub overflow_sub-result : goal.overflow_sub-result
overflow_sub-result c = rw (c.from.ensures, two-20) (less _ _ (known c.before).gives)

pub returns : goal.returns
returns c = rw (c.from.ensures, two-20) (left _ _ (known c.before).gives)
