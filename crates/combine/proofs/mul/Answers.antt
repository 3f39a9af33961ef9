use Rattle.std.proofs.Common.{rules, ◌≡◌, ◌∙◌}
use Rattle.std.specs.List.{fold}
use Rattle.float.specs.Single.{◌⊗◌, one}
use Rattle.combine.proofs.Folds.{fold-is}
use Rattle.combine.proofs.mul.Goals as goal

pub returns : goal.returns
returns c = let e : c.product.result ≡ fold ◌⊗◌ one c.args.xs.now = search rules in e ∙ fold-is ◌⊗◌ one c.args.xs.now
