-- The invariant of a loop that works out a block, in place or into a buffer: after n turns the first n samples are the step's, the rest is as it was, and the state is the step's after n.
use Rattle.std.specs.Prelude.{◌≡◌, List, ℕ, ◌+◌, ◌≤◌, ◌<◌, length, get_or, set}
use Rattle.std.proofs.Math.Path.{refl}
use Rattle.std.proofs.Common.{sym, ap, ◌∙◌, length-set, get_or-set_same, get_or-set_other, ext_get_or}
use native.Mathlib.Omega.{arith}
use Rattle.std.proofs.Math.Decide.{ℕ_discrete}
use Rattle.block.specs.Iterate.{after, sample_at, given, given-length, given-at, after_more}

module _ {S A : Type 0} (d : A) (f : ℕ → S → A × S) (s : S) (xs : List A) where
  pub record Going (n : ℕ) (ys : List A) (u : S) : Type 0 where
    pub bound : n ≤ length xs
    pub long : length ys ≡ length xs
    pub state : u ≡ after f s n
    pub done : (k : ℕ) → k < n → get_or ys k d ≡ sample_at f s k
    pub todo : (k : ℕ) → n ≤ k → get_or ys k d ≡ get_or xs k d

  pub going_start : Going 0 xs s
  unfolding after
  going_start = record { bound = omega arith; long = refl; state = refl; done = λ k h. let z : ⊥ = omega arith in absurd z; todo = λ k h. refl }

  -- a turn stores sample n, made of what stood there
  pub going-turn : {n : ℕ} {ys : List A} {u : S} → Going n ys u → n < length xs → {y : A} {v : S} → y ≡ (f n u).0 → v ≡ (f n u).1 → Going (n + 1) (set ys n y) v
  going-turn {n} {ys} {u} g h {y} {v} p q = record {
    bound = omega arith;
    long = length-set ys n y ∙ g.long;
    state = q ∙ ap (λ (w : S). (f n w).1) g.state ∙ sym (after_more f s n);
    done = λ k l. elim (ℕ_discrete k n) [
      | yes e ↦ rw e (get_or-set_same ys n y d (omega (arith, g.long)) ∙ p ∙ ap (λ (w : S). (f n w).0) g.state)
      | no e ↦ get_or-set_other ys n k y d e ∙ g.done k (omega arith)
    ];
    todo = λ k l. let e : k ≡ n → ⊥ = omega arith in get_or-set_other ys n k y d e ∙ g.todo k (omega arith);
  }

  pub going_end : {n : ℕ} {ys : List A} {u : S} → Going n ys u → length xs ≤ n → (ys ≡ given f s (length xs)) × (u ≡ after f s (length xs))
  going_end {n} {ys} {u} g h =
      let e : n ≡ length xs = omega (arith, g.bound) in (
        ext_get_or d ys (given f s (length xs)) (g.long ∙ sym (given-length f s (length xs)))
            (λ k l. g.done k (omega (arith, g.long)) ∙ sym (given-at f s (length xs) k d (omega (arith, g.long)))),
        g.state ∙ ap (after f s) e,
      )
