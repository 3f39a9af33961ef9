use Rattle.std.proofs.Common.{◌≡◌, List, length, take, sym, ap, ◌∙◌}
use Rattle.std.specs.Prelude.{Float}
use Rattle.std.proofs.lemmas.List.{length-take-le}
use Rattle.block.specs.Iterate.{given, after}
use Rattle.proc_block.specs.Steps.{level_step, level_gain_step}
use Rattle.proc_block.proofs.Passes.{after-levels, given-levels}
use Rattle.proc_block.proofs.compress_block.Goals as goal

pub returns : goal.returns
returns c =
    let a = c.args in
    let xs = a.out.now in
    let e = c.compress_levels-e.ensures in
    let step = level_step xs a.c in
    let n : length (take (length xs) a.buf.now) ≡ length xs = length-take-le (length xs) a.buf.now c.requires in (
      c.compress_gains.ensures
          ∙ ap (λ (l : List Float). given (level_gain_step xs l a.c) tt (length xs)) (e.0 ∙ ap (given step a.env) n)
          ∙ sym (given-levels xs a.c a.env (length xs)),
      e.1 ∙ ap (after step a.env) n ∙ sym (after-levels xs a.c a.env (length xs)),
    )
