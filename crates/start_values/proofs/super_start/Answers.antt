use Rattle.std.proofs.Common.{◌≡◌, sym, ap, ◌∙◌, rules, arith, ◌*◌}
use Prim.Native.Nat.{min, max}
use lib.Seq.{length-take-le}
use Rattle.block.specs.Iterate.{given}
use Rattle.unit.specs.Start.{start_phase, start_ratio}
use Rattle.layout.specs.Needs.{voices_of}
use Rattle.start_values.specs.Written.{halves}
use Rattle.start_values.proofs.super_start.Goals as goal

pub slice_bounds-run_block-end-2 : goal.slice_bounds-run_block-end-2
slice_bounds-run_block-end-2 c = sym (length-take-le _ _ (omega arith))

pub returns : goal.returns
unfolding given
returns c =
    let n = c.voices-n.result in
    let cents = c.number-cents.result in
    let e : n ≡ voices_of c.args.r.now = c.voices-n.ensures.0 ∙ ap (λ b. max 1 (min b 16)) c.bits.ensures in
    let phases = (c.run_block.ensures (λ k s. (start_phase n k, s)) (λ k s r h p. search rules)).0 in
    let ratios = (c.run_block-2.ensures (λ k s. (start_ratio n cents k, s)) (λ k s r h p. search rules)).0 in
    halves n c.args.own.now _ _ _ _ (c.requires ∙ ap (λ n. 2 * n) (sym e)) phases ratios ∙ rw (e, c.number-cents.ensures)
