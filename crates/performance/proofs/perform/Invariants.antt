use Rattle.performance.specs.List.{Playing, call_at, length_at}
use Rattle.performance.proofs.perform.Given as goal

abbrev pub invariant-loop-k : goal.invariant-loop-k
invariant-loop-k l = Playing l.sheet (call_at l.calls) (length_at l.calls) l.initial.c l.initial.out l.initial.cells l.initial.regs l.initial.scr l.initial.answers l.c l.out l.cells l.regs l.scr l.answers l.d l.k
