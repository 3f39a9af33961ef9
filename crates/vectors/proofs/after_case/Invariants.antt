-- Each turn counts one answer.
use Rattle.std.proofs.Common.{◌≡◌, ◌+◌, ◌≤◌}
use Rattle.vectors.proofs.after_case.Given as goal

abbrev pub invariant-loop-index : goal.invariant-loop-index
invariant-loop-index g l = (l.after.answers ≡ l.initial.after.answers + l.index) × (l.after.differ ≤ l.after.answers)
