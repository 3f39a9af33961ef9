-- What is left is of the room.
use Rattle.std.proofs.Common.{◌≤◌}
use Rattle.voice_vectors.proofs.filled.Given as goal

abbrev pub invariant-loop-call : goal.invariant-loop-call
invariant-loop-call l = l.left ≤ l.room
