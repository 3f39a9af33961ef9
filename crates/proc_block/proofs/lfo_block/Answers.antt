use Rattle.std.proofs.Common.{map, ap, ◌∙◌}
use Rattle.dsp.specs.Math.{sine}
use Rattle.proc_block.proofs.Passes.{given-lfo}
use Rattle.proc_block.proofs.lfo_block.Goals as goal

pub returns : goal.returns
returns c =
    let a = c.args in
    c.sin_block.ensures ∙ ap (map sine) c.lfo_angles.ensures ∙ given-lfo a.rate a.srf a.t _
