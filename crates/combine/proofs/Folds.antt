-- A fold takes the inputs one after another.
use Rattle.std.specs.Prelude.{◌≡◌, refl, List, [], ◌∷◌, ℕ, zero, suc, length, get_or, Float}
use Rattle.std.proofs.Common.{sym, ap, ◌∙◌}
use Rattle.std.specs.List.{fold}
use Rattle.std.specs.Float.{nan}
use Rattle.combine.specs.Combine.{folded}

module _ (op : Float → Float → Float) where
  -- the first of them first
  folded-first : (z x : Float) (xs : List Float) (n : ℕ) → folded op z (x ∷ xs) (suc n) ≡ folded op (op z x) xs n
  unfolding folded
  folded-first z x xs zero = refl
  folded-first z x xs (suc n) = ap (λ (y : Float). op y (get_or xs n nan)) (folded-first z x xs n)

  pub fold-is : (z : Float) (xs : List Float) → fold op z xs ≡ folded op z xs (length xs)
  unfolding folded
  fold-is z [] = refl
  fold-is z (x ∷ xs) = fold-is (op z x) xs ∙ sym (folded-first z x xs (length xs))
