use mathlib.Core.List.{◌++◌}
use lib.Ieee.{nan}
use Rattle.block.specs.Loop.{Going}
use Rattle.reverb_block.specs.Reverb.{reverb_step}
use Rattle.reverb_block.specs.Lines.{LineAt}
use Rattle.reverb_block.proofs.reverb_lines.Given as goal

abbrev pub invariant-loop-sample : goal.invariant-loop-sample
invariant-loop-sample l =
    Going nan (reverb_step l.initial.out l.feedback l.mix l.lens) (l.initial.lines ++ l.initial.stores, l.initial.places) l.initial.out l.sample-index l.out (l.lines ++ l.stores, l.places) × LineAt l.lens l.places l.lines 0 0
