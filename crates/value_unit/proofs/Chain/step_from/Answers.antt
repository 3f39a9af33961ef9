use Rattle.std.proofs.Common.{arith}
use Rattle.value_unit.specs.Laws.{index_in}
use Rattle.value_unit.proofs.Chain.step_from.Goals as goal

pub step_at-requires : goal.step_at-requires
step_at-requires c = let a = c.args in omega (arith, index_in a.rate a.srf a.t a.n c.requires.1, c.arp_index-index.ensures, c.requires.0)
