-- Lists of calls, once for every machine that makes samples, is moved, and is fed calls alone: what a list gives and leaves, and what anyone has who makes its calls.
use Rattle.std.specs.Prelude.{◌≡◌, Bool, cond, List, [], ◌∷◌, ◌++◌, ℕ, ◌+◌, eqb}
use Rattle.tree.specs.Comm.{M, ret, bind}

-- what samples give is joined, and an answer shows it: a list of samples as it is; one with a count beside it, where the count stops at its top
pub record Output (O P : Type 0) : Type 0 where
  pub none : O
  pub join : O → O → O
  pub join_none : (o : O) → join none o ≡ o
  pub join_assoc : (a b c : O) → join (join a b) c ≡ join a (join b c)
  pub shown : O → P
  pub empty : P
  pub also : P → P → P
  pub shown_none : shown none ≡ empty
  pub shown_join : (a b : O) → shown (join a b) ≡ also (shown a) (shown b)

pub data Call (Move : Type 0) : Type 0 where
  fill : ℕ → Call Move
  move : Move → Call Move

pub record Machine (S O P Move : Type 0) : Type 0 where
  pub output : Output O P
  -- the number of the first check that applies, and 0 where none does
  pub check : Call Move → S → ℕ
  pub samples : ℕ → M S O
  -- what a fill of n samples does at its end
  pub rested : ℕ → S → S
  pub move_to : Move → S → S

-- ---- read off a list, before anything is played
module _ {Move : Type 0} where
  -- how many samples a call asks for, and a list; the move that a call is, if it is one, after t samples
  abbrev pub asks : Call Move → ℕ
  asks (fill n) = n
  asks (move v) = 0

  unfoldable pub asked : List (Call Move) → ℕ
  asked [] = 0
  asked (k ∷ ks) = asks k + asked ks

  abbrev pub move_at : ℕ → Call Move → List (ℕ × Move)
  move_at t (fill n) = []
  move_at t (move v) = (t, v) ∷ []

  -- what is told beforehand: w tells the answer to each move, low w v, and follows each that is taken
  abbrev pub follow : {W : Type 0} → (W → Move → ℕ) → (W → Move → W) → W → Move → W
  follow low next w v = cond (eqb (low w v) 0) (next w v) w

  -- the answers, and the moves that are taken, each with how many samples are asked for before it: t before the list
  unfoldable pub answers_from : {W : Type 0} → (W → Move → ℕ) → (W → Move → W) → W → List (Call Move) → List ℕ
  answers_from low next w [] = []
  answers_from low next w (fill n ∷ ks) = 0 ∷ answers_from low next w ks
  answers_from low next w (move v ∷ ks) = low w v ∷ answers_from low next (follow low next w v) ks

  unfoldable pub moves_from : {W : Type 0} → (W → Move → ℕ) → (W → Move → W) → ℕ → W → List (Call Move) → List (ℕ × Move)
  moves_from low next t w [] = []
  moves_from low next t w (fill n ∷ ks) = moves_from low next (t + n) w ks
  moves_from low next t w (move v ∷ ks) = cond (eqb (low w v) 0) ((t, v) ∷ []) [] ++ moves_from low next t (follow low next w v) ks

module _ {S O P Move : Type 0} (m : Machine S O P Move) where
  open m use {output.{shown, empty, also}, check, samples, rested, move_to}

  -- accepted where low is 0, and otherwise nothing changes
  abbrev pub answered : ℕ → P × S → S → (ℕ × P) × S
  answered low r p = cond (eqb low 0) ((0, r.0), r.1) ((low, empty), p)

  unfoldable pub call : Call Move → M S (ℕ × P)
  call (fill n) p = let r = samples n p in answered (check (fill n) p) (shown r.0, rested n r.1) p
  call (move v) p = answered (check (move v) p) (empty, move_to v p) p

  -- THE MACHINE, fed a list of calls: the answers, what the accepted fills gave in order, and what is left
  unfoldable pub fed : List (Call Move) → M S (List ℕ × P)
  fed [] = ret ([], empty)
  fed (k ∷ ks) = bind (call k) (λ a. bind (fed ks) (λ b. ret (a.0 ∷ b.0, also a.1 b.1)))

  -- ---- what a list comes to
  -- of a call that came to r, which is accepted where it answers 0: how many samples it made, and its move
  abbrev pub accepted : (ℕ × P) × S → Bool
  accepted r = eqb r.0.0 0

  abbrev pub made : Call Move → (ℕ × P) × S → ℕ
  made k r = cond (accepted r) (asks k) 0

  abbrev pub moved_at : ℕ → Call Move → (ℕ × P) × S → List (ℕ × Move)
  moved_at t k r = cond (accepted r) (move_at t k) []

  -- how many samples the list makes
  unfoldable pub total : List (Call Move) → S → ℕ
  total [] p = 0
  total (k ∷ ks) p = let r = call k p in made k r + total ks r.1

  -- THE PLAN: the accepted moves, each with how many samples were made before it; t before the list began
  unfoldable pub plan_from : ℕ → List (Call Move) → S → List (ℕ × Move)
  plan_from t [] p = []
  plan_from t (k ∷ ks) p = let r = call k p in moved_at t k r ++ plan_from (t + made k r) ks r.1

  abbrev pub plan : List (Call Move) → S → List (ℕ × Move)
  plan ks p = plan_from 0 ks p

  -- ---- ANYONE WHO MAKES THE CALLS: Step k p a q is what the contract of a public call says, from p with the answer a to q
  module _ (Step : Call Move → S → ℕ × P → S → Type 0) where
    -- each call on what the one before left
    pub data Run : List (Call Move) → S → List ℕ × P → S → Type 0 where
      none : {p : S} → Run [] p ([], empty) p
      more : {k : Call Move} {ks : List (Call Move)} {p q t : S} {a : ℕ × P} {b : List ℕ × P} → Step k p a q → Run ks q b t → Run (k ∷ ks) p (a.0 ∷ b.0, also a.1 b.1) t
