use mathlib.Core.Path.{sym, ap, ◌∙◌}
use borrow.Author.Rules.{rules}
use Rattle.control.specs.declared.Controls.{Controls}
use Rattle.control.specs.Moves.{moved}
use Rattle.glide.proofs.glide_block.Goals as goal

pub glide_held-requires : goal.glide_held-requires
unfolding moved
glide_held-requires c =
    let m = c.glide_on-m.ensures in
    (ap (λ (d : Controls). d.pitch) (sym m) ∙ c.same.ensures c.if-same.true, search rules)
