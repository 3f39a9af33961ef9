use mathlib.Core.Path.{◌≡◌}
use mathlib.Core.List.{◌++◌}
use Rattle.reverb_block.specs.Reverb as bank
use Rattle.reverb_block.specs.Reverb.{line_from}
use Rattle.reverb_block.specs.Lines.{LineAt}
use Rattle.reverb_block.proofs.combs.Given as goal

abbrev pub invariant-loop-k : goal.invariant-loop-k
invariant-loop-k l =
    ((l.wet, (l.lines ++ l.stores, l.places)) ≡ bank.combs l.feedback l.lens l.x (l.initial.lines ++ l.initial.stores, l.initial.places) l.k) × LineAt l.lens l.places l.lines l.from l.k
