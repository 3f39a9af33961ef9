use Rattle.std.proofs.Common.{ap, rules}
use lib.Ieee.{binary32, div}
use Rattle.lines.specs.Lines.{tuning_rate, tuned_line}
use Rattle.lines.proofs.Lengths.{tuned-ge, comb-le, allpass-le}
use Rattle.lines.proofs.reverb_lens_apart.Goals as goal

pub returns : goal.returns
returns c =
    let sr = c.args.sr in
    let q = ap (λ x. div binary32 x tuning_rate) c.u32_to_f32.ensures in
    (c.lens_by.ensures (λ n. tuned_line n sr) (λ n r p. search (rules, q)), λ k. (tuned-ge _ sr, comb-le sr c.requires k), λ k. (tuned-ge _ sr, allpass-le sr c.requires k))
