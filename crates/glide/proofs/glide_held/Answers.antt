use mathlib.Core.Path.{refl, sym, ap, ◌∙◌, subst}
use mathlib.Core.List.{List}
use Prim.Native.Nat.{ℕ}
use lib.ListN.{length, length-map}
use lib.Ieee.{Float}
use Rattle.float.specs.Single.{◌⊗◌}
use Rattle.control.specs.Moves.{moved}
use Rattle.unit.specs.Block.{Pitched}
use Rattle.glide.specs.Glide.{risen_by, later-held, pitched-held}
use Rattle.glide.proofs.glide_held.Goals as goal

pub returns : goal.returns
returns c =
    let a = c.args in
    let n = length a.pitch.now in (
      c.rise_by.ensures ∙ ap (λ (k : ℕ). risen_by k a.first) (ap length c.fill_block.ensures ∙ length-map a.pitch.now (λ y. a.first.pitch ⊗ a.first.bend)) ∙ sym (later-held a.first c.requires.0 n),
      subst (λ (w : List Float). Pitched (moved a.first) w n) (sym c.fill_block.ensures) (pitched-held a.first c.requires.0 _ refl a.pitch.now),
    )
