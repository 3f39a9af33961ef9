-- Values of an index, each mapped: what a map over a block, such as `sin_block`, makes of what a loop gave.
use Rattle.std.specs.Prelude.{◌≡◌, length, get_or}
use Rattle.std.proofs.Math.Path.{refl, ap}
use Rattle.std.proofs.Common.{sym, ◌∙◌}
use mathlib.Core.List.{List, [], ◌∷◌, ◌++◌, map, map-append}
use Prim.Native.Nat.{ℕ, zero, suc, ◌<◌}
use Rattle.tree.specs.Block.{tab, length-tab, get_or-tab, tab-is}

module _ {A B : Type 0} (f : A → B) where
  pub map-tab : (n : ℕ) (g : ℕ → A) → map f (tab n g) ≡ tab n (λ k. f (g k))
  unfolding tab
  map-tab zero g = refl
  map-tab (suc n) g = map-append f (tab n g) (g n ∷ []) ∙ ap (λ (l : List B). l ++ (f (g n) ∷ [])) (map-tab n g)

  pub tab-map : (d : A) (xs : List A) → tab (length xs) (λ k. f (get_or xs k d)) ≡ map f xs
  tab-map d xs = sym (map-tab (length xs) (λ k. get_or xs k d)) ∙ ap (map f) (tab-is d xs)

  -- a list that is such a map: how long it is, and what stands at k
  module _ (n : ℕ) (g : ℕ → A) {ys : List B} (is-ys : ys ≡ map f (tab n g)) where
    pub mapped-length : length ys ≡ n
    mapped-length = ap length (is-ys ∙ map-tab n g) ∙ length-tab n (λ k. f (g k))

    pub mapped_at : (k : ℕ) (d : B) → k < n → get_or ys k d ≡ f (g k)
    mapped_at k d h = ap (λ (l : List B). get_or l k d) (is-ys ∙ map-tab n g) ∙ get_or-tab n (λ k. f (g k)) k d h
