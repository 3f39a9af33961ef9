-- Size and order. A comparison with a NaN is false, and -0 is neither below nor above +0.
use Rattle.std.specs.Prelude.{Bool, true, false, cond, Float}
use Rattle.std.specs.Float.{nan, inf, fin}
use Rattle.std.specs.Float.Ieee.{is_nan, lt}

unfoldable pub abs_of : Float → Float
abs_of nan = nan
abs_of (inf s) = inf false
abs_of (fin s m e) = fin false m e

-- neither a NaN nor an infinity
unfoldable pub is_finite : Float → Bool
is_finite nan = false
is_finite (inf s) = false
is_finite (fin s m e) = true

-- the sign, which a zero has too
unfoldable pub negative : Float → Bool
negative nan = false
negative (inf s) = s
negative (fin s m e) = s

-- IEEE 754's maximumNumber: the larger, a NaN passed over. Two numbers that are equal are the same number or zeros of unlike sign, of which this is +0.
unfoldable pub max_of : Float → Float → Float
max_of x y = cond (is_nan x) y (cond (is_nan y) x (cond (lt x y) y (cond (lt y x) x (cond (negative x) y x))))

-- minimumNumber: the smaller, a NaN passed over, and -0 of two zeros of unlike sign
unfoldable pub min_of : Float → Float → Float
min_of x y = cond (is_nan x) y (cond (is_nan y) x (cond (lt x y) x (cond (lt y x) y (cond (negative x) x y))))

-- x, or the end of the range from lo to hi that it is past. A NaN and a -0 stay.
unfoldable pub clamp_of : Float → Float → Float → Float
clamp_of x lo hi = cond (lt x lo) lo (cond (lt hi x) hi x)
