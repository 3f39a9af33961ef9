-- Whole numbers near a float. A value `fin s m e` is m * 2 ^ e, negative where s is true: it is whole where e is not negative, and `fin s m (negsuc k)` is the fraction m / 2 ^ (k + 1).
-- `of_int f (pos n)` is the float of the format f nearest to n: exactly n wherever it stands here.
use Rattle.std.specs.Prelude.{ℕ, suc, ◌+◌, ◌-◌, ◌*◌, ◌/◌, ◌^◌, true, false, pos, negsuc, Float}
use Rattle.std.specs.Float.{nan, inf, fin, Format}
use Rattle.std.specs.Float.Ieee.{of_int, neg, sub}

-- m / d as a whole number: its whole part, the next one up unless it is whole, and the whole part of m / d + 1 / 2
abbrev pub cut : ℕ → ℕ → ℕ
cut m d = m / d

abbrev pub ceil : ℕ → ℕ → ℕ
ceil m d = (m + (d - 1)) / d

abbrev pub half : ℕ → ℕ → ℕ
half m d = (2 * m + d) / (2 * d)

-- x with its size made whole: by p where x is above zero and by n where it is below. What is whole, an infinity and a NaN stay, and the sign stays, also at zero.
unfoldable pub whole_of : Format → (ℕ → ℕ → ℕ) → (ℕ → ℕ → ℕ) → Float → Float
whole_of f p n nan = nan
whole_of f p n (inf s) = inf s
whole_of f p n (fin s m (pos k)) = fin s m (pos k)
whole_of f p n (fin false m (negsuc k)) = of_int f (pos (p m (2 ^ suc k)))
whole_of f p n (fin true m (negsuc k)) = neg (of_int f (pos (n m (2 ^ suc k))))

-- the largest whole number that is not above x
abbrev pub floor_of : Format → Float → Float
floor_of f x = whole_of f cut ceil x

-- x without its fraction
abbrev pub trunc_of : Format → Float → Float
trunc_of f x = whole_of f cut cut x

-- the nearest whole number, a half away from zero
abbrev pub round_of : Format → Float → Float
round_of f x = whole_of f half half x

-- what `trunc_of` takes away
abbrev pub fract_of : Format → Float → Float
fract_of f x = sub f x (trunc_of f x)

-- a phase brought back into a period of 1
abbrev pub wrap_of : Format → Float → Float
wrap_of f x = sub f x (floor_of f x)
