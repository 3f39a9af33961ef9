-- What the calls answer and leave, as the sample machine does.
use Rattle.std.proofs.Math.Path.{◌≡◌, refl, ap}
use Rattle.std.proofs.Common.{sym, ◌∙◌}
use Rattle.std.specs.Prelude.{Bool, true, false, cond, ◌&&◌, ◌≢◌, ℕ, ◌^◌, ◌≤◌, ◌<◌, eqb, leb, drop, Result, Ok, Err}
use mathlib.Core.List.{List, [], ◌∷◌, ◌++◌}
use native.Mathlib.Omega.{arith}
use Rattle.std.proofs.Math.ListN.{length, replicate}
use Rattle.std.specs.Float.Ieee.{Float}
use borrow.Author.Tests.{ne_eqb, le-leb, lt-leb}
use Rattle.control.specs.declared.Controls.{Controls}
use Rattle.control.specs.Moves.{left_for}
use Rattle.sheet.specs.Record.{count_of}
use Rattle.sheet.specs.Checks.{lowest}
use Rattle.layout.specs.Needs.{cells_from, registers_from, scratch_from}
use Rattle.unit.specs.Own.{silence}
use Rattle.unit.specs.State.{rings_ok}
use Rattle.walk.specs.Walk.{Sound}
use Rattle.machine.specs.Machine.{State, state, sound_ok, room_check, fill_check, samples, Answered, cleared, fill_of, scaled}
use Rattle.machine.proofs.Laws.{room-enough, room-passed}
use Rattle.machine.proofs.Valid.{rings-all}
use Rattle.machine.specs.Build.{build_of, started_cells, started_registers}
use Rattle.control.specs.Moves.{fresh}
use Rattle.streaming.specs.Run.{Blocked}
use Rattle.refusal.specs.declared.Refusal.{Refusal}

-- the controls after a call that began with c: a refusal leaves them
abbrev pub controls_of : Controls → Result Controls Refusal → Controls
controls_of c (Ok r) = r
controls_of c (Err e) = c

pub controls-err : (c : Controls) {r : Result Controls Refusal} {e : Refusal} → r ≡ Err e → controls_of c r ≡ c
controls-err c q = rw q refl

-- ---- THE CONTRACTS: from the controls c and the lent cs, rs and zs, an answer a and controls r, and ds, ss and ws are left
-- a fill of xs: where it is accepted its samples are ys, and where not xs is as it was
pub record Fills (s : List ℕ) (c : Controls) (xs cs : List Float) (rs : List ℕ) (zs : List Float) (a : ℕ) (r : Controls) (ys ds : List Float) (ss : List ℕ) (ws : List Float) : Type 0 where
  pub is : ◌≡◌ {A = Answered × State} ((a, cond (eqb a 0) ys []), state r ds ss ws) (fill_of s (length xs) (state c cs rs zs))
  pub refused : a ≢ 0 → ys ≡ xs

-- a move of the cutoff: only the cells change
pub record Cuts (s : List ℕ) (x : Float) (cs : List Float) (nr ns a : ℕ) (ds : List Float) : Type 0 where
  pub answer : a ≡ room_check s (length cs) nr ns
  pub cells : ds ≡ cond (eqb a 0) (scaled s x (count_of s) cs) cs

pub record Builds (s : List ℕ) (c : Controls) (cs : List Float) (rs : List ℕ) (zs : List Float) (a : ℕ) (r : Controls) (ds : List Float) (ss : List ℕ) (ws : List Float) : Type 0 where
  pub is : ◌≡◌ {A = Answered × State} ((a, []), state r ds ss ws) (build_of s (state c cs rs zs))

-- ---- a fill, check by check
module _ (s : List ℕ) (c : Controls) (xs cs : List Float) (rs : List ℕ) (zs : List Float) where
  refused-by : (a : ℕ) → a ≢ 0 → fill_check s (length xs) (state c cs rs zs) ≡ a → Fills s c xs cs rs zs a c xs cs rs zs
  unfolding fill_of
  refused-by a d e = record { is = rw (e, ne_eqb a 0 d); refused = λ h. refl }

  pub fills-room : (a : ℕ) → a ≢ 0 → a ≡ room_check s (length cs) (length rs) (length zs) → Fills s c xs cs rs zs a c xs cs rs zs
  unfolding fill_check
  fills-room a d e = refused-by a d (rw (← e, ne_eqb a 0 d))

  module _ (room : room_check s (length cs) (length rs) (length zs) ≡ 0) where
    pub fills-unsound : sound_ok s c cs rs ≡ false → Fills s c xs cs rs zs 9 c xs cs rs zs
    unfolding fill_check lowest
    fills-unsound e = refused-by 9 (λ z. omega arith) (rw (room, e))

    module _ (sound : sound_ok s c cs rs ≡ true) where
      pub fills-late : left_for c.position (length xs) ≡ false → Fills s c xs cs rs zs 10 c xs cs rs zs
      unfolding fill_check lowest
      fills-late e = refused-by 10 (λ z. omega arith) (rw (room, sound, e))

      module _ (left : left_for c.position (length xs) ≡ true) where
        passes : fill_check s (length xs) (state c cs rs zs) ≡ 0
        unfolding fill_check lowest
        passes = rw (room, sound, left)

        pub fills-none : length xs ≡ 0 → Fills s c xs cs rs zs 0 c xs cs rs zs
        unfolding fill_of samples
        fills-none l = record { is = rw (passes, l) (empty xs l); refused = λ h. refl }
          where
            empty : (xs : List Float) → length xs ≡ 0 → ◌≡◌ {A = Answered × State} ((0, xs), state c cs rs zs) ((0, []), state c cs rs zs)
            empty [] l = refl
            empty (x ∷ xs) l = let z : ⊥ = omega arith in absurd z

        pub fills-all : (r : Controls) (ys ds : List Float) (ss : List ℕ) (ws us : List Float) → length xs ≢ 0 → Blocked s (length xs) c cs rs zs r ys ds ss ws
            → us ≡ replicate (scratch_from s (count_of s)) silence ++ drop (scratch_from s (count_of s)) ws → Fills s c xs cs rs zs 0 r ys ds ss us
        unfolding fill_of
        fills-all r ys ds ss ws us d b w = record {
          is = ap {B = Answered × State} (λ (l : List Float). ((0, ys), state r ds ss l)) (w ∙ ap (λ (l : List Float). replicate (scratch_from s (count_of s)) silence ++ l) b.past)
              ∙ rw (passes, ne_eqb (length xs) 0 d) (ap {B = Answered × State} (λ (t : List Float × State). ((0, t.0), state t.1.controls t.1.cells t.1.registers (cleared s t.1.scratch))) (b.is zs));
          refused = λ h. absurd (h refl);
        }

-- check 9 in two parts
pub sound-early : (s : List ℕ) (c : Controls) (cs : List Float) (rs : List ℕ) → c.position ≤ 2 ^ 62 → sound_ok s c cs rs ≡ rings_ok s (cs, rs)
sound-early s c cs rs h = rw (le-leb c.position (2 ^ 62) h)

pub sound-late : (s : List ℕ) (c : Controls) (cs : List Float) (rs : List ℕ) → 2 ^ 62 < c.position → sound_ok s c cs rs ≡ false
sound-late s c cs rs h = rw (lt-leb c.position (2 ^ 62) h)

and_right : (a b : Bool) → a && b ≡ true → b ≡ true
and_right true b e = e
and_right false b e = let z : ◌≡◌ {A = ℕ} 0 1 = cc in let x : ⊥ = omega arith in absurd x

pub sound-of : (s : List ℕ) (c : Controls) (cs : List Float) (rs : List ℕ) (ns : ℕ) → room_check s (length cs) (length rs) ns ≡ 0 → sound_ok s c cs rs ≡ true → Sound s cs rs
sound-of s c cs rs ns e h =
    let r = room-enough s (length cs) (length rs) ns (room-passed s (length cs) (length rs) ns e).1 in
    rings-all s (cs, rs) r.cells r.registers (and_right (leb c.position (2 ^ 62)) (rings_ok s (cs, rs)) h)

-- ---- build and cutoff
module _ (s : List ℕ) (c : Controls) (cs : List Float) (rs : List ℕ) (zs : List Float) where
  pub builds-refused : (a : ℕ) → a ≢ 0 → a ≡ room_check s (length cs) (length rs) (length zs) → Builds s c cs rs zs a c cs rs zs
  unfolding build_of
  builds-refused a d e = record { is = rw (← e, ne_eqb a 0 d) }

  pub builds-all : room_check s (length cs) (length rs) (length zs) ≡ 0 → (r : Controls) (ds : List Float) (ss : List ℕ) (ws : List Float) → r ≡ fresh
      → ds ≡ started_cells s (count_of s) ++ drop (cells_from s (count_of s)) cs → ss ≡ started_registers s (count_of s) ++ drop (registers_from s (count_of s)) rs → ws ≡ cleared s zs → Builds s c cs rs zs 0 r ds ss ws
  unfolding build_of
  builds-all e r ds ss ws p q t u = record { is = rw (e, p, q, t, u) }

pub cuts-refused : (s : List ℕ) (x : Float) (cs : List Float) (nr ns a : ℕ) → a ≢ 0 → a ≡ room_check s (length cs) nr ns → Cuts s x cs nr ns a cs
cuts-refused s x cs nr ns a d e = record { answer = e; cells = rw (ne_eqb a 0 d) }

pub cuts-all : (s : List ℕ) (x : Float) (cs : List Float) (nr ns : ℕ) (ds : List Float) → room_check s (length cs) nr ns ≡ 0 → ds ≡ scaled s x (count_of s) cs → Cuts s x cs nr ns 0 ds
cuts-all s x cs nr ns ds e w = record { answer = sym e; cells = w }
