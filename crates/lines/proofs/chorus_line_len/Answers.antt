-- `lines::chorus_line_len` meets its contract. Assumes nothing.
use mathlib.Core.Path.{◌≡◌}
use Prim.Native.Nat.{◌+◌}
use native.Mathlib.Omega.{arith}
use lib.Ieee.{binary32, add, to_unsigned}
use Rattle.lines.specs.Lines.{chorus_base, chorus_swing, chorus_line}
use Rattle.lines.proofs.Lengths.{chorus-sum-le, chorus-ge, chorus-le, within}
use Rattle.lines.proofs.chorus_line_len.Goals as goal
use Rattle.lines.proofs.chorus_line_len.Goals.{After-f32_to_u64}

-- the whole samples of the longest delay
delay : (c : After-f32_to_u64) → c.f32_to_u64.result ≡ to_unsigned 64 (add binary32 (chorus_base c.args.sr) (chorus_swing c.args.depth c.args.sr))
delay c = rw (c.f32_to_u64.ensures, c.chorus_swing.ensures, c.chorus_base.ensures)

pub overflow_add-result : goal.overflow_add-result
overflow_add-result c =
    omega (arith, delay c, chorus-sum-le c.args.sr c.requires c.args.depth)

pub returns : goal.returns
returns c =
    let is : c.f32_to_u64.result + 2 ≡ chorus_line c.args.depth c.args.sr = unfold chorus_line in rw (delay c) in
    within is (chorus-ge c.args.depth c.args.sr) (chorus-le c.args.sr c.requires c.args.depth)
