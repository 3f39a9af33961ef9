-- Laws of a loop that copies a list by the numbers of its places: the first n of ys are those of xs. No loop asks for them since lists are copied whole; they stand since they are over any lists.
use Rattle.std.specs.Prelude.{◌≡◌, List, ℕ, ◌+◌, ◌≤◌, ◌<◌, length, get_or, set}
use Rattle.std.proofs.Common.{◌∙◌, arith, length-set, get_or-set_same, get_or-set_other, ext_get_or}
use Rattle.std.proofs.Math.Decide.{ℕ_discrete}

module _ {A : Type 0} (d : A) (xs : List A) where
  pub record Copied (ys : List A) (n : ℕ) : Type 0 where
    pub long : length ys ≡ length xs
    pub same : (k : ℕ) → k < n → get_or ys k d ≡ get_or xs k d

  pub copied-start : {ys : List A} → length ys ≡ length xs → Copied ys 0
  copied-start e = record { long = e; same = λ k h. let z : ⊥ = omega arith in absurd z }

  pub copied-turn : {ys : List A} {n : ℕ} → Copied ys n → n < length xs → Copied (set ys n (get_or xs n d)) (n + 1)
  copied-turn {ys} {n} c h = record {
    long = length-set ys n (get_or xs n d) ∙ c.long;
    same = λ k l. elim (ℕ_discrete k n) [
      | yes e ↦ rw e (get_or-set_same ys n (get_or xs n d) d (omega (arith, c.long)))
      | no e ↦ get_or-set_other ys n k (get_or xs n d) d e ∙ c.same k (omega arith)
    ];
  }

  pub copied-end : {ys : List A} {n : ℕ} → Copied ys n → length xs ≤ n → ys ≡ xs
  copied-end {ys} c h = ext_get_or d ys xs c.long (λ k l. c.same k (omega (arith, c.long)))
