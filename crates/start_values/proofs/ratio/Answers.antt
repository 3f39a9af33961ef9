use Rattle.unit.specs.Start.{start_ratio}
use Rattle.start_values.proofs.ratio.Goals as goal

pub returns : goal.returns
unfolding start_ratio
returns c = rw (c.powf.ensures, c.detuned.ensures)
