use mathlib.Core.Path.{◌≡◌}
use Prim.Native.Nat.{◌-◌, ◌+◌}
use native.Mathlib.Omega.{arith}
use lib.ListN.{length}
use Rattle.mixer.proofs.scratch_join.Goals as goal

pub returns : goal.returns
returns c =
    let n = length c.args.x.now in
    let at = c.args.at in
    let z : at + n - at ≡ n = omega arith in
    rw (c.join_into.ensures, z)
