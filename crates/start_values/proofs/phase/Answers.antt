use Rattle.start_values.proofs.phase.Goals as goal

pub returns : goal.returns
returns c = rw (c.u64_to_f32-2.ensures, c.u64_to_f32.ensures)
