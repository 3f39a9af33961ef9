use mathlib.Core.Path.{refl, ap, ◌∙◌}
use mathlib.Core.List.{[], ◌∷◌}
use Prim.Native.Nat.{ℕ}
use Rattle.tree.specs.Block.{tab}
use Rattle.noise_block.specs.Steps.{white_step}
use Rattle.block.specs.Iterate.{word}
use Rattle.unit.specs.Own.{Own}
use Rattle.unit.specs.Sources.{white_unit}
use Rattle.unit.specs.Block.{ran-part}
use Rattle.tree.specs.Lists.{written, one-stored}
use Rattle.source_unit.proofs.white.Goals as goal

pub returns : goal.returns
unfolding white_unit white_step tab
returns c =
    let e = c.white_block.ensures in
    λ cs m. ran-part {S = ℕ} (λ w. (cs, w ∷ [])) white_step white_unit m [] (word c.args.regs.now 0) (λ k l u. refl) (ap {B = Own} (λ l. (cs, l)) (written 0 1 c.args.regs.now c.requires)) e.0
    (ap {B = Own} (λ l. (cs, l)) (one-stored c.args.regs.now c.requires ∙ ap (λ w. w ∷ []) e.1))
