-- `checks::header_ok` meets its contract. Assumes nothing.
use Rattle.sheet.specs.Checks.{header_ok}
use Rattle.checks.proofs.header_ok.Goals as goal

pub returns : goal.returns
unfolding header_ok
returns c = rw (c.rate-rate.ensures, c.half.ensures)
