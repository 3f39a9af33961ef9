-- `lines::delay_line_len` meets its contract. Assumes nothing.
use mathlib.Core.Path.{◌≡◌}
use Rattle.lines.specs.Lines.{delay_line}
use Rattle.lines.proofs.Lengths.{delay-ge, delay-le, within}
use Rattle.lines.proofs.delay_line_len.Goals as goal

pub returns : goal.returns
returns c =
    let is : c.at_least_one.result ≡ delay_line c.args.secs c.args.sr =
    unfold delay_line in rw (c.at_least_one.ensures, c.f32_to_u64.ensures, c.u32_to_f32.ensures, c.min.ensures) in
    within is (delay-ge c.args.secs c.args.sr) (delay-le c.args.sr c.requires c.args.secs)
