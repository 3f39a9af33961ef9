use Rattle.std.proofs.Common.{length, ◌∙◌, arith}
use Rattle.std.proofs.lemmas.List.{length-take-le}
use Rattle.proc_block.proofs.Passes.{given-tremolo}
use Rattle.proc_block.proofs.tremolo_block.Goals as goal

pub returns : goal.returns
returns c =
    let a = c.args in
    c.tremolo_products.ensures
    ∙ given-tremolo a.out.now a.rate a.depth a.srf a.t _ (omega (arith, length-take-le (length a.out.now) a.buf.now c.requires.1)) c.lfo_block.ensures
