-- `checks::accepted` meets its contract. Assumes nothing.
use native.Mathlib.Omega.{arith}
use Rattle.sheet.specs.Accepted.{rows-most}
use Rattle.checks.proofs.accepted.Goals as goal

pub check-requires : goal.check-requires
check-requires c = (rows-most _ _ (omega arith), omega arith, omega arith)
