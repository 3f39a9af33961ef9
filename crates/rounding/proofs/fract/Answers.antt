use Rattle.rounding.specs.Whole.{cut}
use Rattle.rounding.proofs.fract.Goals as goal

pub returns : goal.returns
returns c = c.left_over.ensures cut (λ w e. e)
