use mathlib.Core.Path.{◌≡◌}
use Prim.Native.Nat.{◌-◌, ◌+◌}
use native.Mathlib.Omega.{arith}
use Rattle.mixer.proofs.scratch_fill.Goals as goal

pub returns : goal.returns
returns c =
    let n = c.args.n in
    let at = c.args.at in
    let z : at + n - at ≡ n = omega arith in
    rw (c.fill_block.ensures, z)
