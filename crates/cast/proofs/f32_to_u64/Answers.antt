use Rattle.std.proofs.Common.{◌≡◌, T, refl, lit≤}
use lib.Ieee.{binary32, lt, of_bits}
use Rattle.ieee.proofs.Tests.{null, two_to, yes, no, zero-32}
use Rattle.ieee.proofs.Cast.{asked, sat-top, sat-zero, not-le, above-number}
use Rattle.cast.proofs.f32_to_u64.Goals as goal

two-64 : of_bits binary32 0x5f80_0000 ≡ two_to 64
unfolding of_bits
two-64 = refl

pub returns-then-x : goal.returns-then-x
returns-then-x c = sat-top 64 c.args.x (yes (rw two-64 at c.if-x.true))

pub truncating_f32_to_u64-requires : goal.truncating_f32_to_u64-requires
truncating_f32_to_u64-requires c =
    let x = c.args.x in
    let above : T (lt null x) = yes (rw zero-32 at c.if-x-2.true) in let both = asked 64 x (lit≤ tt) above (not-le 64 x (no (rw two-64 at c.if-x.false)) (above-number x above)) in record { lower_bound = both.0; upper_bound = both.1 }

pub returns-else-x-2 : goal.returns-else-x-2
returns-else-x-2 c = sat-zero 64 c.args.x (no (rw zero-32 at c.if-x-2.false))
