use Rattle.std.proofs.Common.{sym, lt_of_lt_of_le, pow_mono}
use native.Mathlib.Nat.{div-eq_of_lt}
use Rattle.word.proofs.shr.Goals as goal

pub returns-else-k-lt64 : goal.returns-else-k-lt64
returns-else-k-lt64 c = sym (div-eq_of_lt (lt_of_lt_of_le c.ranges.a.fits (pow_mono c.if-k-lt64.false)))
