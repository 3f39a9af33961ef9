use Rattle.det.specs.Tanh.{tanh_above}
use Rattle.det.proofs.Doubled.{doubled}
use Rattle.det.proofs.tanh_above.Goals as goal

pub returns-then-x : goal.returns-then-x
unfolding tanh_above
returns-then-x c = rw c.if-x.true

pub returns-then-x-2 : goal.returns-then-x-2
unfolding tanh_above
returns-then-x-2 c = rw (c.expm1_small-e.ensures, c.if-x.false, c.if-x-2.true)

pub exp_above-requires : goal.exp_above-requires
exp_above-requires c = let both = doubled c.args.x c.requires c.if-x.false c.if-x-2.false in record { least = both.0; most = both.1 }

pub returns-else-x-2 : goal.returns-else-x-2
unfolding tanh_above
returns-else-x-2 c = rw (c.exp_above.ensures, c.if-x.false, c.if-x-2.false)
