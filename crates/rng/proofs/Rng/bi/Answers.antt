use Rattle.std.proofs.Common.{◌/◌, ◌^◌, shr_lt}
use Rattle.rng.specs.Random.{unit_of, bi_of}
use Rattle.rng.proofs.Halves.{twice-drawn}
use Rattle.rng.proofs.Rng.bi.Goals as goal

pub returns-clause-value : goal.returns-clause-value
unfolding unit_of bi_of
returns-clause-value c = rw (← twice-drawn (c.next_u64.result / 2 ^ 40) (shr_lt 24 40 c.next_u64.type_inv), c.next_u64.ensures.value)
