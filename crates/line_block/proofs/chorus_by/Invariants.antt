use mathlib.Core.Path.{◌≡◌}
use Prim.Native.Nat.{◌<◌}
use lib.ListN.{length}
use lib.Ieee.{nan}
use Rattle.block.specs.Loop.{Going}
use Rattle.line_block.specs.Steps.{chorus_by_step}
use Rattle.line_block.proofs.chorus_by.Given as goal

abbrev pub invariant-loop-k : goal.invariant-loop-k
invariant-loop-k l = Going nan (chorus_by_step l.initial.out l.sines l.c.base l.c.swing l.c.mix (length l.initial.line)) (l.initial.line, l.place) l.initial.out l.k l.out (l.line, l.w) × (length l.line ≡ length l.initial.line) × (l.w < length l.line)
