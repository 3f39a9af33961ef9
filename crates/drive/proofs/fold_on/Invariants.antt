use Rattle.std.proofs.Common.{◌≡◌}
use Rattle.drive.specs.Drive.{fold_of}
use Rattle.drive.proofs.Folds.{rest}
use Rattle.drive.proofs.fold_on.Given as goal

-- what is left of the folding from here is the whole
abbrev pub invariant-loop-folds : goal.invariant-loop-folds
invariant-loop-folds l = rest l._folds l.y ≡ fold_of l.x
