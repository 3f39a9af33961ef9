-- The bytes of the samples so far stand before what was not written yet.
use Rattle.std.proofs.Common.{◌≡◌, ◌*◌, ◌++◌, take, drop}
use Rattle.wav.specs.Wav.{bytes_of}
use Rattle.wav.proofs.encode.Given as goal

abbrev pub invariant-loop-k : goal.invariant-loop-k
invariant-loop-k l = l.out ≡ bytes_of (take l.k l.samples) ++ drop (2 * l.k) l.initial.out
