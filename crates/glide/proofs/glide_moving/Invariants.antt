use Rattle.glide.specs.Glide.{Gliding}
use Rattle.glide.proofs.glide_moving.Given as goal

abbrev pub invariant-loop-y : goal.invariant-loop-y
invariant-loop-y l = Gliding l.initial.c l.initial.pitch l.pitch l.c l.y-index
