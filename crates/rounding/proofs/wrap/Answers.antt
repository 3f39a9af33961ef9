use Rattle.rounding.specs.Whole.{ceil}
use Rattle.rounding.proofs.wrap.Goals as goal

pub returns : goal.returns
returns c = c.left_over.ensures ceil (λ w e. e)
