use Rattle.std.specs.Float.{nan}
use Rattle.block.specs.Loop.{Going}
use Rattle.proc_block.specs.Steps.{ln_cosh_step}
use Rattle.proc_block.proofs.drive_ln_coshes.Given as goal

abbrev pub invariant-loop-k : goal.invariant-loop-k
invariant-loop-k l = Going nan (ln_cosh_step l.xs l.initial.fs) tt l.initial.fs l.k l.fs tt
