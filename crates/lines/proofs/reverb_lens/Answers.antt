use Rattle.std.proofs.Common.{ap, rules, refl}
use lib.Ieee.{binary32, div}
use Rattle.lines.specs.Lines.{tuning_rate, tuned_line}
use Rattle.lines.proofs.Lengths.{tuned-ge, tuned-small, comb-le, allpass-le}
use Rattle.lines.proofs.reverb_lens.Goals as goal

pub lens_by-requires : goal.lens_by-requires
lens_by-requires c = λ n h l p e u. tuned-small c.args.sr c.requires n h refl (ap (λ x. div binary32 x tuning_rate) (rw c.from.ensures at c.small_to_f32.ensures))

pub returns : goal.returns
returns c =
    let sr = c.args.sr in
    let q = ap (λ x. div binary32 x tuning_rate) (rw c.from.ensures at c.small_to_f32.ensures) in
    (c.lens_by.ensures (λ n. tuned_line n sr) (λ n r p. search (rules, q)), λ k. (tuned-ge _ sr, comb-le sr c.requires k), λ k. (tuned-ge _ sr, allpass-le sr c.requires k))
