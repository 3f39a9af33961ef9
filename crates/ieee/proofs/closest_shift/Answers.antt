use Rattle.std.proofs.Common.{ℕ, ◌+◌, ◌/◌, ◌%◌, ◌^◌, ◌<◌, arith}
use Rattle.ieee.proofs.Build.{rest-fits, shifts-down, shifts-up, tie, next_fits}
use Rattle.ieee.proofs.closest_shift.Goals as goal

pub overflow_sub-rest : goal.overflow_sub-rest
overflow_sub-rest c = rest-fits c.args.n c.args.k c.ranges.n.fits c.requires.0 c.requires.1

pub returns-then-rest-half : goal.returns-then-rest-half
returns-then-rest-half c =
    shifts-down c.args.n c.args.k c.ranges.n.fits c.requires.0 c.requires.1 c.if-rest-half.true

pub overflow_add-result : goal.overflow_add-result
overflow_add-result c =
    record { fits = next_fits c.args.n c.args.k c.ranges.n.fits c.requires.0 c.requires.1 }

pub returns-then-half-rest : goal.returns-then-half-rest
returns-then-half-rest c =
    shifts-up c.args.n c.args.k c.ranges.n.fits c.requires.0 c.requires.1 c.if-half-rest.true

pub overflow_add-result-else-half-rest : goal.overflow_add-result-else-half-rest
overflow_add-result-else-half-rest c =
    record { fits = less (c.args.n / 2 ^ c.args.k) (next_fits c.args.n c.args.k c.ranges.n.fits c.requires.0 c.requires.1) }
  where
    less : (a : ℕ) → a + 1 < 2 ^ 64 → a + a % 2 < 2 ^ 64
    less a h = omega arith

pub returns-else-half-rest : goal.returns-else-half-rest
returns-else-half-rest c =
    tie c.args.n c.args.k c.ranges.n.fits c.requires.0 c.requires.1 c.if-rest-half.false c.if-half-rest.false
