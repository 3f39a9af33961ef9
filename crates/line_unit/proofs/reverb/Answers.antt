use Rattle.line_unit.proofs.reverb.Goals as goal

pub reverb_lines-requires : goal.reverb_lines-requires
reverb_lines-requires c =
    let l = c.reverb_lens_apart-lens in
    (rw l.ensures.0 c.requires.2, rw l.ensures.0 c.requires.1)

pub returns : goal.returns
returns c =
    λ ctl. c.reverb_lines.ensures ctl c.args.sr c.reverb_lens_apart-lens.ensures.0
