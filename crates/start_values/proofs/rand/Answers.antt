use Rattle.start_values.proofs.rand.Goals as goal

pub returns : goal.returns
returns c = rw (c.copy_from_slice.ensures.after, c.rand_draws-d.ensures)
