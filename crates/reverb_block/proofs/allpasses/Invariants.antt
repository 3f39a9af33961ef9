use mathlib.Core.Path.{◌≡◌}
use mathlib.Core.List.{List, ◌++◌}
use Prim.Native.Nat.{◌+◌}
use lib.Ieee.{Float}
use Rattle.reverb_block.specs.Reverb as bank
use Rattle.reverb_block.specs.Reverb.{line_from}
use Rattle.reverb_block.specs.Lines.{LineAt}
use Rattle.reverb_block.proofs.allpasses.Given as goal

abbrev pub invariant-loop-k : goal.invariant-loop-k
invariant-loop-k l =
    ((ss : List Float) → (l.wet, (l.lines ++ ss, l.places)) ≡ bank.allpasses l.lens (l.sum, (l.initial.lines ++ ss, l.initial.places)) l.k) × LineAt l.lens l.places l.lines l.from (6 + l.k)
