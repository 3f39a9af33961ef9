use Rattle.sheet.specs.Record.{kind}
use Rattle.sheet.specs.Below.{Below}
use Rattle.block_bench.proofs.values.copy_kinds.Given as goal

abbrev pub invariant-loop-i : goal.invariant-loop-i
invariant-loop-i l = Below (kind l.sheet) l.initial.kinds l.kinds l.i
