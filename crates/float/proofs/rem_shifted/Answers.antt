use Rattle.std.proofs.Common.{◌≡◌, ◌-◌, ◌*◌, ◌%◌, ◌^◌, ℕ, subst, le_antisymm}
use Rattle.float.proofs.Remainder.{shifted-on, shifted-last}
use Rattle.float.proofs.rem_shifted.Goals as goal

pub loop-k-preserved : goal.loop-k-preserved
loop-k-preserved c = shifted-on c.loop-k.r c.loop-k.k c.args.a c.args.n c.args.m c.requires.1 c.requires.2 c.loop-k.invariant.0 c.loop-k-test.true c.loop-k.invariant.1

pub returns : goal.returns
returns c =
    shifted-last c.loop-k.r c.args.a c.args.n c.args.m c.loop-k.invariant.0
    (subst (λ (z : ℕ). c.loop-k.r * 2 ^ (c.args.n - 40 * z) % c.args.m ≡ c.args.a * 2 ^ c.args.n % c.args.m) (le_antisymm c.loop-k.auto.k-end c.loop-k-test.false) c.loop-k.invariant.1)
