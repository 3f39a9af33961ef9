use Rattle.det.proofs.powff.Goals as goal

pub returns : goal.returns
returns c = rw (c.f64_to_f32.ensures, c.powf.ensures, c.f32_to_f64-2.ensures, c.f32_to_f64.ensures)
