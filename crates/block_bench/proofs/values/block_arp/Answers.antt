use Rattle.control.specs.Moves.{fresh}
use Rattle.block_bench.proofs.values.block_arp.Goals as goal

pub returns : goal.returns
unfolding fresh
returns c = rw c.fresh.ensures at c.play.ensures.samples
