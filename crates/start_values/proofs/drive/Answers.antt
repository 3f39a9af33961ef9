use Rattle.start_values.proofs.drive.Goals as goal

pub returns : goal.returns
returns c = rw (c.copy_from_slice.ensures.after, c.drive_antideriv.ensures)
