-- THE INVARIANT of a loop that fills a table from the front: what stands below n is f's, and the table d keeps its length
use Rattle.std.specs.Prelude.{◌≡◌, refl, List, ℕ, ◌+◌, ◌<◌, length, get_or, set}
use Rattle.std.proofs.Common.{◌∙◌, arith, length-set, get_or-set_same, get_or-set_other}
use Rattle.std.proofs.Math.Decide.{ℕ_discrete}

pub record Below (f : ℕ → ℕ) (d t : List ℕ) (n : ℕ) : Type 0 where
  pub long : length t ≡ length d
  pub is : (k : ℕ) → k < n → get_or t k 0 ≡ f k

pub below-start : (f : ℕ → ℕ) (d : List ℕ) → Below f d d 0
below-start f d = record { long = refl; is = λ k h. let x : ⊥ = omega arith in absurd x }

pub below-turn : {f : ℕ → ℕ} {d t : List ℕ} {n : ℕ} → Below f d t n → n < length d → {v : ℕ} → v ≡ f n → Below f d (set t n v) (n + 1)
below-turn {t = t} {n = n} b h {v} e = record {
  long = length-set t n v ∙ b.long;
  is = λ k g. elim (ℕ_discrete k n) [
    | yes q ↦ rw q (get_or-set_same t n v 0 (omega (arith, b.long)) ∙ e)
    | no d ↦ get_or-set_other t n k v 0 d ∙ b.is k (omega arith)
  ];
}
