use native.Mathlib.Omega.{arith}
use Rattle.buffers.proofs.run.Goals as goal

pub run_in-requires : goal.run_in-requires
run_in-requires c = (c.requires.0, c.requires.1, c.requires.2, record { enough = λ m h l. omega (arith, l, c.if-out-le64.true) }, omega arith)

pub run_in-requires-else-out-le64 : goal.run_in-requires-else-out-le64
run_in-requires-else-out-le64 c = (c.requires.0, c.requires.1, c.requires.2, record { enough = λ m h l. h }, omega arith)
