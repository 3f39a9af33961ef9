use Rattle.std.proofs.Common.{rules, ◌≡◌, ◌∙◌}
use Rattle.std.specs.List.{fold}
use Rattle.float.specs.Single.{◌⊕◌, zero}
use Rattle.combine.proofs.Folds.{fold-is}
use Rattle.combine.proofs.mix.Goals as goal

pub returns : goal.returns
returns c = let e : c.fold.result ≡ fold ◌⊕◌ zero c.args.xs.now = search rules in e ∙ fold-is ◌⊕◌ zero c.args.xs.now
