use Rattle.layout.specs.Counts.{none_bare}
use Rattle.offsets.proofs.owns.Goals as goal

pub returns-in-Built : goal.returns-in-Built
returns-in-Built c = (λ e. c.in-Built.is, λ e. none_bare _ _ (c.takes.ensures e))
