-- A law of a loop that works out the samples n to n + 3 of a block in one turn. No loop asks for it since a group has any number of samples; it stands since it is over any steps of a block.
use Rattle.std.specs.Prelude.{◌≡◌, refl, ℕ, ◌+◌, ◌<◌, List, length, set}
use Rattle.std.proofs.Common.{arith}
use Rattle.block.specs.Loop.{Going, going-turn}

module _ {S A : Type 0} (d : A) (f : ℕ → S → A × S) (s : S) (xs : List A) where
  pub going-four : {n : ℕ} {ys : List A} {u : S} → Going d f s xs n ys u → n + 3 < length xs → {a b c e : A} {v : S}
      → a ≡ (f n u).0 → b ≡ (f (n + 1) (f n u).1).0 → c ≡ (f (n + 2) (f (n + 1) (f n u).1).1).0 → e ≡ (f (n + 3) (f (n + 2) (f (n + 1) (f n u).1).1).1).0
      → v ≡ (f (n + 3) (f (n + 2) (f (n + 1) (f n u).1).1).1).1
      → Going d f s xs (n + 4) (set (set (set (set ys n a) (n + 1) b) (n + 2) c) (n + 3) e) v
  going-four {n} {ys} {u} g h {a} {b} {c} {e} {v} p q r t w =
      let i : n + 1 + 1 ≡ n + 2 = omega arith in
      let j : n + 2 + 1 ≡ n + 3 = omega arith in
      let k : n + 3 + 1 ≡ n + 4 = omega arith in
      let g1 = going-turn d f s xs g (omega arith) p refl in
      let g2 : Going d f s xs (n + 2) (set (set ys n a) (n + 1) b) (f (n + 1) (f n u).1).1 = rw i at (going-turn d f s xs g1 (omega arith) q refl) in
      let g3 : Going d f s xs (n + 3) (set (set (set ys n a) (n + 1) b) (n + 2) c) (f (n + 2) (f (n + 1) (f n u).1).1).1 = rw j at (going-turn d f s xs g2 (omega arith) r refl) in
      rw k at (going-turn d f s xs g3 (omega arith) t w)
