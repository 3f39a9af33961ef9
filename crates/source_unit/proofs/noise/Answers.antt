use Rattle.std.proofs.Common.{ap, ◌∙◌}
use Rattle.source_unit.specs.Laws.{color_cells}
use Rattle.source_unit.proofs.noise.Goals as goal

pub pink-requires : goal.pink-requires
pink-requires c = (c.requires.0 ∙ ap color_cells c.in-Pink.is, c.requires.1)

pub brown-requires : goal.brown-requires
brown-requires c = (c.requires.0 ∙ ap color_cells c.in-Brown.is, c.requires.1)

pub returns-in-White : goal.returns-in-White
returns-in-White c = λ m. rw c.in-White.is (c.white.ensures c.args.cells.now m)

pub returns-in-Pink : goal.returns-in-Pink
returns-in-Pink c = λ m. rw c.in-Pink.is (c.pink.ensures m)

pub returns-in-Brown : goal.returns-in-Brown
returns-in-Brown c = λ m. rw c.in-Brown.is (c.brown.ensures m)
