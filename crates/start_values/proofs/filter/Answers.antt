use Rattle.start_values.specs.Written.{quiet-nan, zeroed}
use Rattle.start_values.proofs.filter.Goals as goal

pub returns : goal.returns
returns c = rw (c.from_bits.ensures, quiet-nan, zeroed c.args.own.now c.fill_block.ensures c.requires)
