use Rattle.std.proofs.Common.{rules, ◌∙◌}
use Rattle.std.specs.Float.{nan}
use Rattle.block.specs.Iterate.{at, given}
use Rattle.tree.specs.Lists.{tab-zip}
use Rattle.sheet.specs.Numbers.{fold_number}
use Rattle.unit.specs.Voice.{join_of}
use Rattle.mixer.proofs.join_into.Goals as goal

pub returns : goal.returns
unfolding given
returns c =
    let a = c.args in
    (c.run_block.ensures (λ k s. (join_of (fold_number a.fold) (at a.acc.now k) (at a.x.now k), s)) (λ k s r h p. search rules)).0 ∙ tab-zip _ _ _ nan c.requires
