use Rattle.std.proofs.Common.{◌≡◌, ◌-◌, ◌*◌, ◌%◌, ◌^◌, ◌<◌}
use Rattle.float.proofs.rem_shifted.Given as goal

abbrev pub invariant-loop-k : goal.invariant-loop-k
invariant-loop-k l = (l.r < 2 ^ 24) × (l.r * 2 ^ (l.n - 40 * l.k) % l.m ≡ l.a * 2 ^ l.n % l.m)
