-- Mix adds its inputs to 0, and Mul multiplies 1 by them, in order.
use Rattle.std.specs.Prelude.{◌≡◌, List, ℕ, zero, suc, ◌+◌, length, get_or, Float}
use Rattle.std.proofs.Common.{add-one}
use Rattle.std.specs.Float.{nan}
use Rattle.float.specs.Single.{◌⊕◌, ◌⊗◌, zero as zero_f, one}

-- the first n inputs, one after another
unfoldable pub folded : (Float → Float → Float) → Float → List Float → ℕ → Float
folded op z xs zero = z
folded op z xs (suc n) = op (folded op z xs n) (get_or xs n nan)

abbrev pub mix_of : List Float → Float
mix_of xs = folded ◌⊕◌ zero_f xs (length xs)

abbrev pub mul_of : List Float → Float
mul_of xs = folded ◌⊗◌ one xs (length xs)

-- one input more
pub folded_more : (op : Float → Float → Float) (z : Float) (xs : List Float) (k : ℕ) → folded op z xs (k + 1) ≡ op (folded op z xs k) (get_or xs k nan)
unfolding folded
folded_more op z xs k = rw add-one
