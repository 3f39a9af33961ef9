-- `checks::length_ok` meets its contract. Assumes nothing.
use borrow.Author.Tests.{le-leb, lt-leb}
use Rattle.sheet.specs.Checks.{length_ok}
use Rattle.checks.proofs.length_ok.Goals as goal

pub returns-then-sheet-lt24 : goal.returns-then-sheet-lt24
unfolding length_ok
returns-then-sheet-lt24 c = rw (lt-leb 24 _ c.if-sheet-lt24.true)

pub returns : goal.returns
unfolding length_ok
returns c = rw (le-leb 24 _ c.if-sheet-lt24.false, c.count-n.ensures.0)
