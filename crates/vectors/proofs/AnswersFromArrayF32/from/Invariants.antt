-- The words so far are those of the floats so far, and the zeros past them are as they were.
use Rattle.std.proofs.Common.{◌≡◌, ◌++◌, take, drop, replicate, map}
use Rattle.std.specs.Float.Ieee as Ieee
use Rattle.std.specs.Float.{binary32}
use Rattle.vectors.proofs.AnswersFromArrayF32.from.Given as goal

abbrev pub invariant-loop-i : goal.invariant-loop-i
invariant-loop-i g l = l.words ≡ take l.i (map (Ieee.to_bits binary32) l.fn.xs) ++ drop l.i (replicate 20 0)
