use Rattle.start_values.proofs.mode.Goals as goal

pub returns : goal.returns
returns c = rw (c.copy_from_slice.ensures.after, c.modal_coeffs-m.ensures, c.number-3.ensures, c.number-2.ensures, c.number.ensures)
