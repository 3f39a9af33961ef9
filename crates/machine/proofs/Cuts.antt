-- The cut theorem, once for every machine: what a list of calls gives and leaves depends on the accepted moves, on how many samples were made before each, and on how many are made in all; not on how the samples are cut into fills, nor on what was refused.
use Rattle.std.specs.Prelude.{◌≡◌, refl, Bool, true, false, ℕ, ◌+◌, ◌-◌, ◌≤◌, suc, eqb, get_or}
use Rattle.std.proofs.Common.{sym, ap, ap₂, ◌∙◌, add-zero, eqb-true}
use mathlib.Core.List.{List, [], ◌∷◌, ◌++◌}
use native.Mathlib.Omega.{arith}
use Rattle.tree.specs.Comm.{M, ret, bind}
use Rattle.machine.specs.Lists.{Machine, Call, fill, move, asked, answers_from, moves_from, call, fed, made, moved_at, total, plan_from, plan, Run}
use Rattle.machine.specs.Cuts.{Lawful, Foresight, Foreseen}
use Rattle.machine.proofs.Lists.{Outcome, refusal, filling, moving, outcome, run-is}

module _ {S O P Move : Type 0} (m : Machine S O P Move) where
  open m use {output, output.{none, join, shown, empty, also}, check, samples, rested, move_to}

  -- a plan performed: from t samples made to e
  unfoldable perform : List (ℕ × Move) → ℕ → ℕ → M S O
  perform [] t e = samples (e - t)
  perform (a ∷ l) t e = bind (samples (a.0 - t)) (λ x. bind (λ p. perform l a.0 e (move_to a.1 p)) (λ y. ret (join x y)))

  -- no move of l is before u, and neither is the end
  abbrev From : ℕ → List (ℕ × Move) → ℕ → Type 0
  From u [] e = u ≤ e
  From u (a ∷ l) e = u ≤ a.0

  from_le : (u n : ℕ) (l : List (ℕ × Move)) (e : ℕ) → From (u + n) l e → From u l e
  from_le u n [] e h = omega arith
  from_le u n (a ∷ l) e h = omega arith

  -- what is shown, and what is left
  abbrev played : List (Call Move) → S → P × S
  played ks p = let r = fed m ks p in (r.0.1, r.1)

  abbrev seen : O × S → P × S
  seen w = (shown w.0, w.1)

  module _ (law : Lawful m) where
    open law use {samples_none, samples_add, samples_rested, move_rested, rested_none, rested_again}

    perform-rested : (k : ℕ) (l : List (ℕ × Move)) (t e : ℕ) (p : S) → perform l t e (rested k p) ≡ ((perform l t e p).0, rested k (perform l t e p).1)
    unfolding perform
    perform-rested k [] t e p = samples_rested k (e - t) p
    perform-rested k (a ∷ l) t e p =
        let r = samples (a.0 - t) p in
        let after : M S O = λ q. perform l a.0 e (move_to a.1 q) in
        ap {B = O × S} (λ (w : O × S). (join w.0 (after w.1).0, (after w.1).1)) (samples_rested k (a.0 - t) p)
        ∙ ap {B = O × S} (λ (q : S). (join r.0 (perform l a.0 e q).0, (perform l a.0 e q).1)) (move_rested k a.1 r.1)
        ∙ ap {B = O × S} (λ (w : O × S). (join r.0 w.0, w.1)) (perform-rested k l a.0 e (move_to a.1 r.1))

    samples-join : (n t e : ℕ) → t + n ≤ e → samples (e - t) ≡ bind (samples n) (λ x. bind (samples (e - (t + n))) (λ y. ret (join x y)))
    samples-join n t e h = let d : e - t ≡ n + (e - (t + n)) = omega arith in ap samples d ∙ samples_add n (e - (t + n))

    -- n samples more, in front of a plan that begins after them
    perform-join : (n t : ℕ) (l : List (ℕ × Move)) (e : ℕ) → From (t + n) l e → (p : S)
        → perform l t e p ≡ bind (samples n) (λ x. bind (perform l (t + n) e) (λ y. ret (join x y))) p
    unfolding perform
    perform-join n t [] e h p = ap (λ (f : M S O). f p) (samples-join n t e h)
    perform-join n t (a ∷ l) e h p =
        let after : M S O = λ q. perform l a.0 e (move_to a.1 q) in
        let r = samples n p in
        let u = samples (a.0 - (t + n)) r.1 in
        ap {B = O × S} (λ (f : M S O). (join (f p).0 (after (f p).1).0, (after (f p).1).1)) (samples-join n t a.0 h)
        ∙ ap {B = O × S} (λ (x : O). (x, (after u.1).1)) (output.join_assoc r.0 u.0 (after u.1).0)

    -- ---- the moves of a plan come no earlier than it begins
    -- what is planned from a call on that came to r
    abbrev plan_by : ℕ → Call Move → List (Call Move) → (ℕ × P) × S → List (ℕ × Move)
    plan_by t k ks r = moved_at m t k r ++ plan_from m (t + made m k r) ks r.1

    from-call : (t : ℕ) (ks : List (Call Move)) (p : S) → ((u : ℕ) (q : S) → From u (plan_from m u ks q) (u + total m ks q))
        → (k : Call Move) (r : (ℕ × P) × S) → Outcome m p k r → From t (plan_by t k ks r) (t + (made m k r + total m ks r.1))
    from-call t ks p rest k r (refusal e) = let d : 0 + total m ks p ≡ total m ks p = omega arith in rw (e, add-zero t, d) (rest t p)
    from-call t ks p rest k r (filling n a) =
        let q = rested n (samples n p).1 in
        let d : t + n + total m ks q ≡ t + (n + total m ks q) = omega arith in
        from_le t n (plan_from m (t + n) ks q) (t + (n + total m ks q)) (rw d at (rest (t + n) q))
    from-call t ks p rest k r (moving v a) = omega arith

    plan-from : (ks : List (Call Move)) (t : ℕ) (p : S) → From t (plan_from m t ks p) (t + total m ks p)
    unfolding plan_from total
    plan-from [] t p = omega arith
    plan-from (k ∷ ks) t p = from-call t ks p (λ u q. plan-from ks u q) k (call m k p) (outcome m k p)

    -- ---- the list performs its plan, and rests once
    abbrev performed : List (ℕ × Move) → ℕ → ℕ → S → O × S
    performed l t n p = let r = perform l t (t + n) p in (r.0, rested n r.1)

    perform-move : (t n : ℕ) (v : Move) (l : List (ℕ × Move)) (p : S) → performed l t n (move_to v p) ≡ performed ((t, v) ∷ l) t n p
    unfolding perform
    perform-move t n v l p =
        let z : t - t ≡ 0 = omega arith in
        let r = perform l t (t + n) (move_to v p) in
        sym (ap {B = O × S} (λ (f : M S O). let w = perform l t (t + n) (move_to v (f p).1) in (join (f p).0 w.0, rested n w.1)) (ap samples z ∙ samples_none)
        ∙ ap {B = O × S} (λ (x : O). (x, rested n r.1)) (output.join_none r.0))

    perform-fill : (t n k : ℕ) (l : List (ℕ × Move)) (p : S) → From (t + n) l (t + n + k)
        → let q = samples n p in let r = performed l (t + n) k (rested n q.1) in ◌≡◌ {A = O × S} (join q.0 r.0, r.1) (performed l t (n + k) p)
    perform-fill t n k l p h =
        let q = samples n p in
        let e : t + n + k ≡ t + (n + k) = omega arith in
        let r = perform l (t + n) (t + n + k) q.1 in
        ap {B = O × S} (λ (w : O × S). (join q.0 w.0, rested k w.1)) (perform-rested n l (t + n) (t + n + k) q.1)
        ∙ ap {B = O × S} (λ (u : S). (join q.0 r.0, u)) (rested_again n k r.1)
        ∙ ap {B = O × S} (λ (w : O × S). (w.0, rested (n + k) w.1)) (sym (perform-join n t l (t + n + k) h p))
        ∙ ap {B = O × S} (λ (j : ℕ). let w = perform l t j p in (w.0, rested (n + k) w.1)) e

    -- where a call shows nothing, what is shown is the rest
    shown-none-also : (w : O × S) → ◌≡◌ {A = P × S} (also empty (shown w.0), w.1) (seen w)
    shown-none-also w = ap {B = P × S} (λ (x : P). (x, w.1))
        (ap (λ (x : P). also x (shown w.0)) (sym output.shown_none) ∙ sym (output.shown_join none w.0) ∙ ap shown (output.join_none w.0))

    performs-call : (t : ℕ) (ks : List (Call Move)) (p : S) → ((u : ℕ) (q : S) → played ks q ≡ seen (performed (plan_from m u ks q) u (total m ks q) q))
        → (k : Call Move) (r : (ℕ × P) × S) → Outcome m p k r
        → ◌≡◌ {A = P × S} (also r.0.1 (played ks r.1).0, (played ks r.1).1) (seen (performed (plan_by t k ks r) t (made m k r + total m ks r.1) p))
    performs-call t ks p rest k r (refusal e) =
        let d : 0 + total m ks p ≡ total m ks p = omega arith in
        rw (e, add-zero t, d) (ap {B = P × S} (λ (w : P × S). (also empty w.0, w.1)) (rest t p) ∙ shown-none-also (performed (plan_from m t ks p) t (total m ks p) p))
    performs-call t ks p rest k r (filling n a) =
        let q = rested n (samples n p).1 in
        let w = performed (plan_from m (t + n) ks q) (t + n) (total m ks q) q in
        ap {B = P × S} (λ (w : P × S). (also (shown (samples n p).0) w.0, w.1)) (rest (t + n) q)
        ∙ ap {B = P × S} (λ (x : P). (x, w.1)) (sym (output.shown_join (samples n p).0 w.0))
        ∙ ap seen (perform-fill t n (total m ks q) (plan_from m (t + n) ks q) p (plan-from ks (t + n) q))
    performs-call t ks p rest k r (moving v a) =
        let q = move_to v p in
        let d : 0 + total m ks q ≡ total m ks q = omega arith in
        rw (add-zero t, d) (ap {B = P × S} (λ (w : P × S). (also empty w.0, w.1)) (rest t q) ∙ shown-none-also (performed (plan_from m t ks q) t (total m ks q) q)
        ∙ ap seen (perform-move t (total m ks q) v (plan_from m t ks q) p))

    performs : (ks : List (Call Move)) (t : ℕ) (p : S) → played ks p ≡ seen (performed (plan_from m t ks p) t (total m ks p) p)
    unfolding plan_from total fed perform
    performs [] t p =
        let e : t + 0 - t ≡ 0 = omega arith in
        sym (ap {B = P × S} (λ (f : M S O). (shown (f p).0, rested 0 (f p).1)) (ap samples e ∙ samples_none) ∙ ap₂ {C = P × S} (λ (x : P) (q : S). (x, q)) output.shown_none (rested_none p))
    performs (k ∷ ks) t p = performs-call t ks p (λ u q. performs ks u q) k (call m k p) (outcome m k p)

    -- THE CUT THEOREM. Two lists from one state whose accepted moves are the same, in the same order, each after the same number of samples, and that make equally many samples in all:
    -- they show the same, and leave the same.
    pub cut : (ks js : List (Call Move)) (p : S) → plan m ks p ≡ plan m js p → total m ks p ≡ total m js p → ((fed m ks p).0.1 ≡ (fed m js p).0.1) × ((fed m ks p).1 ≡ (fed m js p).1)
    cut ks js p e d =
        let h = performs ks 0 p ∙ ap₂ (λ (l : List (ℕ × Move)) (n : ℕ). seen (performed l 0 n p)) e d ∙ sym (performs js 0 p) in
        (ap (λ (w : P × S). w.0) h, ap (λ (w : P × S). w.1) h)

    -- TWO PLAYERS who cut one performance differently share all that is shown and all that is left
    pub two-players : (Step : Call Move → S → ℕ × P → S → Type 0) → ((k : Call Move) (p q : S) (a : ℕ × P) → Step k p a q → ◌≡◌ {A = (ℕ × P) × S} (a, q) (call m k p))
        → {ks js : List (Call Move)} {p q t : S} {b d : List ℕ × P} → Run m Step ks p b q → Run m Step js p d t
        → plan m ks p ≡ plan m js p → total m ks p ≡ total m js p → (b.1 ≡ d.1) × (q ≡ t)
    two-players Step is {ks} {js} {p} l r e n =
        let h = cut ks js p e n in
        let u = run-is m Step is l in
        let v = run-is m Step is r in (
          ap (λ (w : (List ℕ × P) × S). w.0.1) u ∙ h.0 ∙ sym (ap (λ (w : (List ℕ × P) × S). w.0.1) v),
          ap (λ (w : (List ℕ × P) × S). w.1) u ∙ h.1 ∙ sym (ap (λ (w : (List ℕ × P) × S). w.1) v),
        )

  module _ {W : Type 0} {low : W → Move → ℕ} {next : W → Move → W} {Fits : W → ℕ → S → Type 0} (f : Foresight m low next Fits) where
    -- THE PREMISES READ OFF THE LIST: what is answered, what is made and which moves are accepted is the list's own
    pub foreseen : (ks : List (Call Move)) (t : ℕ) (w : W) (p : S) → Fits w (asked ks) p → Foreseen m low next t w ks p
    unfolding fed total plan_from asked answers_from moves_from call
    foreseen [] t w p h = record { answers = refl; made = refl; moved = refl }
    foreseen (fill n ∷ ks) t w p h =
        let a = f.fills w n (asked ks) p h in
        let r = foreseen ks (t + n) w (rested n (samples n p).1) a.1 in
        record {
          answers = rw a.0 (ap (λ (l : List ℕ). 0 ∷ l) r.answers);
          made = rw a.0 (ap (λ (l : ℕ). n + l) r.made);
          moved = rw a.0 r.moved;
        }
    foreseen (move v ∷ ks) t w p h = go (eqb (low w v) 0) refl (λ x q. foreseen ks t x q)
      where
        zero_more : (l : ℕ) → 0 + l ≡ l
        zero_more l = omega arith

        g : Fits w (asked ks) p
        g = rw (zero_more (asked ks)) at h

        a : (check (move v) p ≡ low w v) × (low w v ≡ 0 → Fits (next w v) (asked ks) (move_to v p))
        a = f.moves w v (asked ks) p g

        go : (b : Bool) → eqb (low w v) 0 ≡ b → ((x : W) (q : S) → Fits x (asked ks) q → Foreseen m low next t x ks q) → Foreseen m low next t w (move v ∷ ks) p
        go true e rest =
            let z = eqb-true (low w v) 0 e in
            let r = rest (next w v) (move_to v p) (a.1 z) in
            record {
              answers = rw (a.0, z) (ap (λ (l : List ℕ). 0 ∷ l) r.answers);
              made = rw (a.0, z) (ap (λ (l : ℕ). 0 + l) r.made);
              moved = rw (a.0, z, add-zero t) (ap (λ (l : List (ℕ × Move)). (t, v) ∷ l) r.moved);
            }
        go false e rest =
            let r = rest w p g in
            record {
              answers = rw (a.0, e) (ap (λ (l : List ℕ). low w v ∷ l) r.answers);
              made = rw (a.0, e, e) (ap (λ (l : ℕ). 0 + l) r.made);
              moved = rw (a.0, e, e, add-zero t) r.moved;
            }

    -- THE CUT, BY THE LISTS: the same moves in the same order, each after the same number of samples, and as many samples in all
    pub cut-lists : Lawful m → (ks js : List (Call Move)) (w : W) (p : S) → Fits w (asked ks) p → moves_from low next 0 w ks ≡ moves_from low next 0 w js → asked ks ≡ asked js
        → ((fed m ks p).0.1 ≡ (fed m js p).0.1) × ((fed m ks p).1 ≡ (fed m js p).1)
    cut-lists law ks js w p h e n =
        let a = foreseen ks 0 w p h in
        let b = foreseen js 0 w p (rw n at h) in
        cut law ks js p (a.moved ∙ e ∙ sym b.moved) (a.made ∙ n ∙ sym b.made)

  -- a list of which nothing is refused
  pub all-accepted : (ks : List (Call Move)) (t : ℕ) (p : S) → ((i : ℕ) → get_or (fed m ks p).0.0 i 0 ≡ 0)
      → (total m ks p ≡ asked ks) × (plan_from m t ks p ≡ moves_from {W = Unit {0}} (λ u v. 0) (λ u v. u) t tt ks)
  unfolding total plan_from asked moves_from fed
  all-accepted [] t p h = (refl, refl)
  all-accepted (fill n ∷ ks) t p h =
      let r = all-accepted ks (t + n) (call m (fill n) p).1 (λ i. h (suc i)) in
      rw (h 0) (ap (λ (l : ℕ). n + l) r.0, r.1)
  all-accepted (move v ∷ ks) t p h =
      let r = all-accepted ks t (call m (move v) p).1 (λ i. h (suc i)) in
      rw (h 0, add-zero t) (ap (λ (l : ℕ). 0 + l) r.0, ap (λ (l : List (ℕ × Move)). (t, v) ∷ l) r.1)
