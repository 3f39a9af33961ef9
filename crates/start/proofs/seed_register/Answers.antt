use mathlib.Core.Path.{ap, ◌∙◌}
use mathlib.Core.List.{[], ◌∷◌}
use Rattle.tree.specs.Lists.{one-stored}
use Rattle.start.proofs.seed_register.Goals as goal

pub returns : goal.returns
returns c = one-stored c.args.own.now c.requires ∙ ap (λ w. w ∷ []) c.node_seed.ensures
