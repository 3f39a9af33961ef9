use Rattle.library.proofs.player_build.Goals as goal

pub returns : goal.returns
returns c = rw (c.answered.ensures.0, c.answered.ensures.1) c.build.ensures
