-- The argument, and how many samples it asks for.
use Rattle.std.specs.Prelude.{Bool, true, cond, ◌&&◌, List, [], ◌∷◌, ℕ, ◌+◌, ◌-◌, ◌*◌, leb}
use Rattle.sheet.specs.Record.{rate_of}

-- 0 to 9 in ASCII
abbrev pub is_digit : ℕ → Bool
is_digit b = leb 48 b && leb b 57

unfoldable pub all_digits : List ℕ → Bool
all_digits [] = true
all_digits (b ∷ bs) = is_digit b && all_digits bs

-- the decimal number of the digits that stand after those of n
unfoldable pub decimal_from : ℕ → List ℕ → ℕ
decimal_from n [] = n
decimal_from n (b ∷ bs) = decimal_from (10 * n + (b - 48)) bs

-- 0 where the text is no number from 1 to 3,600
unfoldable pub seconds_from : ℕ → List ℕ → ℕ
seconds_from n text = cond (all_digits text && leb (decimal_from n text) 3600) (decimal_from n text) 0

abbrev pub seconds_of : List ℕ → ℕ
seconds_of text = seconds_from 0 text

abbrev pub samples_of : List ℕ → ℕ → ℕ
samples_of sheet seconds = rate_of sheet * seconds
