use mathlib.Core.Path.{◌≡◌, ap, ◌∙◌}
use native.Mathlib.Omega.{arith}
use lib.ListN.{length}
use Rattle.control.specs.Moves.{moved, risen}
use Rattle.glide.specs.Glide.{glide-start, glide-turn, risen_by}
use Rattle.glide.proofs.glide_moving.Goals as goal

pub loop-y-init : goal.loop-y-init
loop-y-init c = glide-start _ _

pub rise_by-c-requires : goal.rise_by-c-requires
unfolding moved
rise_by-c-requires c = let l = c.loop-y in
    rw c.glide_on-m.ensures (omega (arith, l.invariant.at_position, l.invariant.bound, c.requires))

pub loop-y-preserved : goal.loop-y-preserved
unfolding risen
loop-y-preserved c = let l = c.loop-y in
    glide-turn _ _ _ _ l.y-index _ _ l.invariant (omega (arith, l.invariant.long)) (rw c.glide_on-m.ensures) (c.rise_by-c.ensures ∙ ap (risen_by 1) c.glide_on-m.ensures)

pub returns : goal.returns
returns c = let l = c.loop-y in
    let e : l.y-index ≡ length c.args.pitch.now = omega (arith, l.invariant.bound, l.invariant.long) in
    (rw e at l.invariant.is, record { long = omega (arith, l.invariant.long); at_all = rw e at l.invariant.done })
