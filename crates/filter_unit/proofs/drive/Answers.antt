use Rattle.std.proofs.Common.{ap, ◌∙◌}
use borrow.Author.Tests.{lt-ltb, le-ltb}
use Rattle.unit.specs.Processors.{drive_cells}
use Rattle.filter_unit.specs.Runs.{antialiased-ran, plain-ran}
use Rattle.filter_unit.proofs.drive.Goals as goal

pub returns-then-option-lt3 : goal.returns-then-option-lt3
returns-then-option-lt3 c =
    let l = c.load_drive-s in
    let b = c.drive_block-t in
    λ ctl rs. rw (← c.option-option.ensures, lt-ltb _ _ c.if-option-lt3.true, ← c.from-shape.ensures)
    (antialiased-ran ctl _ _ l.result c.requires.0 l.ensures b.ensures.0 (c.store_drive.ensures ∙ ap drive_cells b.ensures.1))

pub returns : goal.returns
returns c =
    λ ctl rs. rw (← c.option-option.ensures, le-ltb _ _ c.if-option-lt3.false, ← c.from-shape.ensures)
    (plain-ran ctl _ _ c.drive_plain_block.ensures)
