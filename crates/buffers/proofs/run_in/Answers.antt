use mathlib.Core.Bool.{true}
use mathlib.Core.Path.{◌≡◌}
use Prim.Native.Nat.{ℕ, ◌+◌, ◌^◌, ◌≤◌}
use borrow.Author.Tests.{leb-true}
use lib.ListN.{length, replicate, length-replicate}
use Rattle.unit.specs.Own.{silence}
use Rattle.control.specs.Moves.{left_for}
use Rattle.streaming.specs.Run.{Buffer}
use Rattle.buffers.proofs.run_in.Goals as goal

left-most : (p n : ℕ) → left_for p n ≡ true → p + n ≤ 2 ^ 62
unfolding left_for
left-most p n e = leb-true (p + n) (2 ^ 62) e

pub run-requires : goal.run-requires
run-requires g c =
    let b : Buffer (length c.args.out.now) (length (replicate g.row.N silence)) = simp length-replicate c.requires.3 in
    (c.requires.0, c.requires.1, b, b, b, left-most _ _ c.requires.2)
