-- Lists of calls: what a call of any machine comes to, and that a list of calls, each by its contract, is the machine's.
use Rattle.std.specs.Prelude.{◌≡◌, refl, Bool, true, false, List, ◌∷◌, ℕ, eqb}
use Rattle.std.proofs.Common.{sym, ap, ◌∙◌, eqb-true}
use Rattle.machine.specs.Lists.{Machine, Call, fill, move, call, fed, Run, none, more}

module _ {S O P Move : Type 0} (m : Machine S O P Move) where
  open m use {output.{shown, empty, also}, check, samples, rested, move_to}

  -- ---- what a call comes to: nothing, where it is refused; samples; or a move
  pub data Outcome (p : S) : Call Move → (ℕ × P) × S → Type 0 where
    refusal : {k : Call Move} {a : ℕ} → eqb a 0 ≡ false → Outcome p k ((a, empty), p)
    filling : (n : ℕ) → check (fill n) p ≡ 0 → Outcome p (fill n) ((0, shown (samples n p).0), rested n (samples n p).1)
    moving : (v : Move) → check (move v) p ≡ 0 → Outcome p (move v) ((0, empty), move_to v p)

  pub outcome : (k : Call Move) (p : S) → Outcome p k (call m k p)
  unfolding call
  outcome k p = go k (eqb (check k p) 0) refl
    where
      go : (k : Call Move) (b : Bool) → eqb (check k p) 0 ≡ b → Outcome p k (call m k p)
      go (fill n) true e = rw e (filling n (eqb-true (check (fill n) p) 0 e))
      go (move v) true e = rw e (moving v (eqb-true (check (move v) p) 0 e))
      go (fill n) false e = rw e (refusal e)
      go (move v) false e = rw e (refusal e)

  -- the answer is the check's
  pub call-answer : (k : Call Move) (p : S) → (call m k p).0.0 ≡ check k p
  unfolding call
  call-answer k p = go k (eqb (check k p) 0) refl
    where
      go : (k : Call Move) (b : Bool) → eqb (check k p) 0 ≡ b → (call m k p).0.0 ≡ check k p
      go (fill n) true e = rw e (sym (eqb-true (check (fill n) p) 0 e))
      go (move v) true e = rw e (sym (eqb-true (check (move v) p) 0 e))
      go (fill n) false e = rw e
      go (move v) false e = rw e

  -- THE WHOLE LIST, MADE BY ANYONE: the answers, what is made and what is left are the machine's
  pub run-is : (Step : Call Move → S → ℕ × P → S → Type 0) → ((k : Call Move) (p q : S) (a : ℕ × P) → Step k p a q → ◌≡◌ {A = (ℕ × P) × S} (a, q) (call m k p))
      → {ks : List (Call Move)} {p q : S} {b : List ℕ × P} → Run m Step ks p b q → ◌≡◌ {A = (List ℕ × P) × S} (b, q) (fed m ks p)
  unfolding fed
  run-is Step is none = refl
  run-is Step is (more {k} {ks} {p} {q} {t} {a} {b} e r) =
      ap {B = (List ℕ × P) × S} (λ (w : (List ℕ × P) × S). ((a.0 ∷ w.0.0, also a.1 w.0.1), w.1)) (run-is Step is r)
      ∙ ap {B = (List ℕ × P) × S} (λ (u : (ℕ × P) × S). let w = fed m ks u.1 in ((u.0.0 ∷ w.0.0, also u.0.1 w.0.1), w.1)) (is k p q a e)
