-- The peak: the largest of 0 and the samples that are no NaN.
use Rattle.std.specs.Prelude.{cond, List, length, Float}
use Rattle.std.specs.Float.Ieee.{lt}
use Rattle.float.specs.Single.{zero}
use Rattle.combine.specs.Combine.{folded}

-- a NaN is neither larger nor smaller
abbrev pub higher_of : Float → Float → Float
higher_of p x = cond (lt p x) x p

abbrev pub peak_of : List Float → Float
peak_of xs = folded higher_of zero xs (length xs)
