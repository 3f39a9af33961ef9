use Rattle.std.proofs.Common.{◌≡◌, true, rules}
use Rattle.float.specs.Order.{is_finite}
use Rattle.drive.specs.Drive.{fold_of}
use Rattle.drive.proofs.Folds.{fold-once}
use Rattle.drive.proofs.fold.Goals as goal

pub returns-then-not-is_finite : goal.returns-then-not-is_finite
unfolding fold_of
returns-then-not-is_finite c = rw (← c.is_finite.ensures, c.if-not-is_finite.true)

pub returns : goal.returns
returns c =
    let finite : is_finite c.args.x ≡ true = search rules in
    fold-once c.args.x finite _ c.reflected-z.ensures c.if-z.false c.if-z-2.false
