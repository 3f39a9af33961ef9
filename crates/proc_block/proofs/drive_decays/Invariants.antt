use Rattle.std.specs.Float.{nan}
use Rattle.block.specs.Loop.{Going}
use Rattle.proc_block.specs.Steps.{decay_step}
use Rattle.proc_block.proofs.drive_decays.Given as goal

abbrev pub invariant-loop-k : goal.invariant-loop-k
invariant-loop-k l = Going nan (decay_step l.xs) tt l.initial.fs l.k l.fs tt
