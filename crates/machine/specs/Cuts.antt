-- What the cut theorem asks of a machine, and what it takes to read its premises off the lists of calls.
use Rattle.std.specs.Prelude.{◌≡◌, List, ℕ, ◌+◌}
use Rattle.tree.specs.Comm.{ret, bind}
use Rattle.machine.specs.Lists.{Machine, Call, fill, move, asked, answers_from, moves_from, fed, total, plan_from}

module _ {S O P Move : Type 0} (m : Machine S O P Move) where
  open m use {output.{none, join}, check, samples, rested, move_to}

  -- what the machine must keep: samples go on where they stopped, and what a fill does at its end plays no part in them
  pub record Lawful : Type 0 where
    pub samples_none : samples 0 ≡ ret none
    pub samples_add : (a b : ℕ) → samples (a + b) ≡ bind (samples a) (λ x. bind (samples b) (λ y. ret (join x y)))
    pub samples_rested : (k n : ℕ) (p : S) → samples n (rested k p) ≡ ((samples n p).0, rested k (samples n p).1)
    pub move_rested : (k : ℕ) (v : Move) (p : S) → move_to v (rested k p) ≡ rested k (move_to v p)
    pub rested_none : (p : S) → rested 0 p ≡ p
    pub rested_again : (a b : ℕ) (p : S) → rested b (rested a p) ≡ rested (a + b) p

  -- ---- what is told of a list beforehand, of states p with Fits w n p: p answers as w tells, and has positions left for n samples
  pub record Foresight {W : Type 0} (low : W → Move → ℕ) (next : W → Move → W) (Fits : W → ℕ → S → Type 0) : Type 0 where
    pub fills : (w : W) (n l : ℕ) (p : S) → Fits w (n + l) p → (check (fill n) p ≡ 0) × Fits w l (rested n (samples n p).1)
    pub moves : (w : W) (v : Move) (l : ℕ) (p : S) → Fits w l p → (check (move v) p ≡ low w v) × (low w v ≡ 0 → Fits (next w v) l (move_to v p))

  -- the list is answered, makes samples and is moved as it says itself
  pub record Foreseen {W : Type 0} (low : W → Move → ℕ) (next : W → Move → W) (t : ℕ) (w : W) (ks : List (Call Move)) (p : S) : Type 0 where
    pub answers : (fed m ks p).0.0 ≡ answers_from low next w ks
    pub made : total m ks p ≡ asked ks
    pub moved : plan_from m t ks p ≡ moves_from low next t w ks
