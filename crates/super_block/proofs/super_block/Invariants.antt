use Rattle.std.specs.Float.{nan}
use Rattle.block.specs.Loop.{Going}
use Rattle.super_block.specs.Super.{super_step}
use Rattle.super_block.proofs.super_block.Given as goal

abbrev pub invariant-loop-k : goal.invariant-loop-k
invariant-loop-k l = Going nan (super_step l.wave l.n l.fn.w) l.initial.cells l.initial.out l.k l.out l.cells
