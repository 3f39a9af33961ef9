use Rattle.det.proofs.powff_by.Goals as goal

pub powf_by-requires : goal.powf_by-requires
powf_by-requires c = rw c.f32_to_f64.ensures c.requires

pub returns : goal.returns
returns c = rw (c.f64_to_f32.ensures, c.powf_by.ensures, c.f32_to_f64-2.ensures, c.f32_to_f64.ensures)
