-- A bank of units over a few samples: unit after unit, each over all the samples, gives what sample after sample gives, where a unit
-- commutes with those before it. An item is a sample with what the units have made of it so far.
use Rattle.std.specs.Prelude.{◌≡◌, List}
use Prim.Native.Nat.{ℕ, zero, suc, ◌+◌, ◌<◌}
use Rattle.std.proofs.Math.Numerals.{add-one}
use Rattle.std.proofs.Common.{arith}
use Rattle.tree.specs.Comm.{M, ret, bind, Comm, comm-ret, comm-bind, blk, interchange}

-- an action over a list of items
abbrev pub over : {S X : Type 0} → (X → M S X) → List X → M S (List X)
over f xs = blk (λ (u : Unit {0}). u) (λ u x. f x) tt xs

module _ {S X : Type 0} (act : ℕ → X → M S X) where
  -- the first n units on an item
  unfoldable pub bank_of : ℕ → X → M S X
  bank_of zero x = ret x
  bank_of (suc n) x = bind (bank_of n x) (act n)

  bank-comm : (n m : ℕ) → ((i : ℕ) (x y : X) → i < m → Comm (act i x) (act n y)) → (x y : X) → Comm (bank_of m x) (act n y)
  unfolding bank_of
  bank-comm n zero c x y = comm-ret x
  bank-comm n (suc m) c x y = comm-bind (bank-comm n m (λ i x y h. c i x y (omega arith)) x y) (λ z. c m z y (omega arith))

  pub bank-more : (n : ℕ) → ((i : ℕ) (x y : X) → i < n → Comm (act i x) (act n y)) → (xs : List X) → over (bank_of (n + 1)) xs ≡ bind (over (bank_of n) xs) (over (act n))
  unfolding bank_of
  bank-more n c xs = rw add-one (interchange (λ (u : Unit {0}). u) (λ u x. bank_of n x) (λ u x. act n x) (λ t u x y. bank-comm n n c x y) tt xs)
