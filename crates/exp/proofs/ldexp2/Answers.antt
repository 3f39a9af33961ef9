use mathlib.Core.Path.{◌≡◌, ◌∙◌, subst}
use mathlib.Core.Bool.{true, false}
use Prim.Native.Nat.{◌*◌, ◌%◌, ◌^◌}
use lib.Dec.{lit<}
use lib.IntN.{ℤ, pos, negsuc}
use lib.Signed.{lt_z}
use mir.Syntax.{w64}
use mir.ValLaws.{to_z-of_z}
use Rattle.ieee.proofs.Tests.{zero-64}
use Rattle.exp.proofs.Power.{above, under, Written, subnormal, normal, sum_number, sum-gives}
use Rattle.double.proofs.Tests.{one-by-zero}
use Rattle.exp.proofs.ldexp2.Goals as goal
use Rattle.exp.proofs.ldexp2.Goals.{Else-k-ltminus1022, Else-k-ltminus1074}

-- below -1022, and not below -1074
low : (c : Else-k-ltminus1074) → Written c.args.k 1074 51 (λ i. 1 * 2 ^ i % 2 ^ 64)
low c =
    let e = to_z-of_z w64 c.args.k c.ranges.k in
    subnormal c.args.k (subst (λ (z : ℤ). lt_z z (negsuc 1021) ≡ true) e c.if-k-ltminus1022.true) (subst (λ (z : ℤ). lt_z z (negsuc 1073) ≡ false) e c.if-k-ltminus1074.false)

-- from -1022 to 1023
high : (c : Else-k-ltminus1022) → Written c.args.k 1023 2046 (λ x. x * 2 ^ 52 % 2 ^ 64)
high c =
    let e = to_z-of_z w64 c.args.k c.ranges.k in
    normal c.args.k (subst (λ (z : ℤ). lt_z (pos 1023) z ≡ false) e c.if-k-gt1023.false) (subst (λ (z : ℤ). lt_z z (negsuc 1021) ≡ false) e c.if-k-ltminus1022.false)

pub returns-then-k-gt1023 : goal.returns-then-k-gt1023
returns-then-k-gt1023 c =
    let k = c.args.k in
    one-by-zero ∙ above k (subst (λ (z : ℤ). lt_z (pos 1023) z ≡ true) (to_z-of_z w64 k c.ranges.k) c.if-k-gt1023.true)

pub returns-then-k-ltminus1074 : goal.returns-then-k-ltminus1074
returns-then-k-ltminus1074 c =
    zero-64 ∙ under c.args.k (subst (λ (z : ℤ). lt_z z (negsuc 1073) ≡ true) (to_z-of_z w64 c.args.k c.ranges.k) c.if-k-ltminus1074.true)

pub float_from_bits-result : goal.float_from_bits-result
float_from_bits-result c = sum_number c.args.k c.ranges.k 1074 51 _ (low c) (lit< tt)

pub returns-else-k-ltminus1074 : goal.returns-else-k-ltminus1074
returns-else-k-ltminus1074 c = sum-gives c.args.k c.ranges.k 1074 51 _ (low c) (lit< tt)

pub float_from_bits-result-else-k-ltminus1022 : goal.float_from_bits-result-else-k-ltminus1022
float_from_bits-result-else-k-ltminus1022 c = sum_number c.args.k c.ranges.k 1023 2046 _ (high c) (lit< tt)

pub returns-else-k-ltminus1022 : goal.returns-else-k-ltminus1022
returns-else-k-ltminus1022 c = sum-gives c.args.k c.ranges.k 1023 2046 _ (high c) (lit< tt)
