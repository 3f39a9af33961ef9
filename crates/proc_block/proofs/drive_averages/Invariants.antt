use Rattle.std.proofs.Common.{◌≡◌}
use Rattle.std.specs.Float.{nan}
use Rattle.block.specs.Loop.{Going}
use Rattle.dsl.specs.declared.DriveShape.TheVariants.{Tanh}
use Rattle.proc_block.specs.Steps.{drive_by_step}
use Rattle.proc_block.proofs.drive_averages.Given as goal

abbrev pub invariant-loop-k : goal.invariant-loop-k
invariant-loop-k l = record { going : Going nan (drive_by_step l.initial.out l.fs Tanh) l.initial.state l.initial.out l.k l.out l.state; shape : l.held.shape ≡ Tanh }
