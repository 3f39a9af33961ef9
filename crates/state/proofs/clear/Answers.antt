-- `state::clear` meets its contract. The front is filled. Assumes nothing.
use mathlib.Core.Path.{sym, ap, ◌∙◌}
use mathlib.Core.List.{◌++◌}
use lib.ListN.{take, drop, replicate}
use lib.Seq.{length-take-le}
use Rattle.tree.specs.Lists.{map-const}
use Rattle.unit.specs.Own.{silence}
use Rattle.state.proofs.clear.Goals as goal

pub slice_bounds-fill_block-end-2 : goal.slice_bounds-fill_block-end-2
slice_bounds-fill_block-end-2 c = sym (length-take-le _ _ c.requires)

pub returns : goal.returns
returns c =
    let n = c.args.n in
    let scr = c.args.scr.now in
    ap (λ front. front ++ drop n scr) (c.fill_block.ensures ∙ map-const silence (take n scr) ∙ ap (λ k. replicate k silence) (length-take-le n scr c.requires))
