-- Rust's rem_euclid: the remainder of x by y, which has x's sign, and where that is negative |y| more, rounded once. So it may round up to |y| itself.
use Rattle.std.specs.Prelude.{false, cond, pos, Float}
use Rattle.std.specs.Float.{fin, Format}
use Rattle.std.specs.Float.Ieee.{lt, add, rem}
use Rattle.float.specs.Order.{abs_of}

unfoldable pub rem_euclid_of : Format → Float → Float → Float
rem_euclid_of f x y = let r = rem f x y in cond (lt r (fin false 0 (pos 0))) (add f r (abs_of y)) r
