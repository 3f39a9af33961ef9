-- The words of an answer, and how a header's number is a width.
use Rattle.std.specs.Prelude.{ℕ, cond, eqb, List, ◌++◌, ◌≡◌, ◌-◌, take, replicate, length, min, get_or}
use Rattle.vectors.specs.declared.Width.{Width}
use Rattle.vectors.specs.declared.Width.TheVariants as width

-- A word has 4 bytes, or else 8.
unfoldable pub width_of : ℕ → Width
width_of n = cond (eqb n 4) width.Four width.Eight

-- The 20 words of an answer: the first 20 of those given, and 0 past them.
unfoldable pub words_of : List ℕ → List ℕ
words_of xs = take 20 (xs ++ replicate 20 0)

-- An answer of these words: they stand first, and their number beside them.
pub record Answered (words : List ℕ) (count : ℕ) (xs : List ℕ) : Type 0 where
  pub first : words ≡ words_of xs
  pub number : count ≡ min (length xs) 20

-- The answer of a number; past the last one, the last.
unfoldable pub answer_at : List ℕ → ℕ → ℕ → ℕ
answer_at words count i = get_or words (min i (count - 1)) 0
