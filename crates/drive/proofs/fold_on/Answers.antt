use Rattle.std.proofs.Common.{◌+◌, ◌≤◌, sym, ap, ◌∙◌, arith}
use Rattle.drive.proofs.Folds.{rest, first-fold, fold-above, fold-below, no-fold, last-fold}
use Rattle.drive.proofs.fold_on.Goals as goal
use Rattle.drive.proofs.fold_on.Goals.{then-y, else-y+then-y-2}

pub loop-folds-init : goal.loop-folds-init
loop-folds-init c = first-fold c.args.x c.requires

pub returns-else-y-2 : goal.returns-else-y-2
returns-else-y-2 c =
    let l = c.loop-folds in
    sym (no-fold l._folds l.y (omega arith) c.if-y.false c.if-y-2.false) ∙ l.invariant

pub loop-folds-preserved : goal.loop-folds-preserved
loop-folds-preserved c =
    let l = c.loop-folds in
    let t : l._folds ≤ 1024 = omega arith in
    elim c.if-y.branch [
      | then-y w ↦ ap (rest (l._folds + 1)) w.y-is ∙ sym (fold-above l._folds l.y t w.if-y.true) ∙ l.invariant
      | else-y+then-y-2 w ↦ ap (rest (l._folds + 1)) w.y-is ∙ sym (fold-below l._folds l.y t w.if-y.false w.if-y-2.true) ∙ l.invariant
    ]

pub returns : goal.returns
returns c =
    let l = c.loop-folds in
    c.clamp.ensures ∙ sym (last-fold l._folds l.y (omega arith)) ∙ l.invariant
