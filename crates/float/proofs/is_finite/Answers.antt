use Rattle.std.proofs.Common.{◌∙◌}
use Rattle.float.proofs.Order.{finite-is}
use Rattle.float.proofs.is_finite.Goals as goal

pub returns : goal.returns
returns c = c.is_finite.ensures.value ∙ finite-is c.args.x
