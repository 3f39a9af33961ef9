use Rattle.start_values.proofs.compress.Goals as goal

pub returns : goal.returns
returns c = rw (c.copy_from_slice.ensures.after, c.follower_coeffs-f.ensures, c.powf-makeup.ensures, c.number-3.ensures, c.number-2.ensures, c.number.ensures)
