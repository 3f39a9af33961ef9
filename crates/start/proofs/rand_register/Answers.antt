use mathlib.Core.Path.{ap, ◌∙◌}
use mathlib.Core.List.{[], ◌∷◌}
use Rattle.tree.specs.Lists.{one-stored}
use Rattle.start.proofs.rand_register.Goals as goal

pub returns : goal.returns
returns c = one-stored c.args.own.now c.requires ∙ ap (λ d. d.word ∷ []) c.rand_draws-d.ensures
