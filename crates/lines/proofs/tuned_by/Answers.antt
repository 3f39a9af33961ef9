-- `lines::tuned_by` meets its contract. Assumes nothing.
use mathlib.Core.Path.{◌∙◌}
use mathlib.Core.Logic.{inl, inr}
use lib.Ieee.{binary32, mul}
use Rattle.lines.specs.Lines.{tuned_line}
use Rattle.lines.proofs.Lengths.{Raised, raised}
use Rattle.lines.proofs.tuned_by.Goals as goal
use Rattle.lines.proofs.tuned_by.Goals.{Joined-y, then-y, else-y}

came : (c : Joined-y) → Raised (mul binary32 c.args.t c.args.scale) c.if-y.small_to_u64
came c = elim c.if-y.branch [ then-y w ↦ inl (w.if-y.true, w.small_to_u64-is) | else-y w ↦ inr (w.if-y.false, w.small_to_u64-is) ]

pub small_to_u64-requires : goal.small_to_u64-requires
small_to_u64-requires c = let r = raised _ c.if-y.small_to_u64 (came c) c.requires in record { least = r.0; most = r.1 }

pub returns : goal.returns
unfolding tuned_line
returns c = λ n sr e f. rw (← e, ← f) (c.small_to_u64.ensures ∙ (raised _ c.if-y.small_to_u64 (came c.before) c.requires).2)
