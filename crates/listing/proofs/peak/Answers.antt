use Rattle.std.proofs.Common.{rules, ◌≡◌, ◌∙◌}
use Rattle.std.specs.List.{fold}
use Rattle.float.specs.Single.{zero}
use Rattle.combine.proofs.Folds.{fold-is}
use Rattle.listing.specs.Peak.{higher_of}
use Rattle.listing.proofs.peak.Goals as goal

pub returns : goal.returns
returns c = let e : c.fold.result ≡ fold higher_of zero c.args.out.now = search rules in e ∙ fold-is higher_of zero c.args.out.now
