-- A valid state stays valid: there is enough of each list, the position is at most 2^62, and what each record owns is sound, before and after every call.
-- The laws up to the last part assume that the voice is valid and that each unit keeps its own part sound; the last part assumes nothing of an accepted sheet.
use Rattle.std.specs.Prelude.{◌≡◌, Bool, cond, length, replicate, Float}
use Rattle.std.proofs.Math.Path.{refl}
use Rattle.std.proofs.Common.{sym, subst, ◌∙◌, arith}
use Rattle.std.proofs.Math.Bool.{true, false}
use mathlib.Core.List.{List, [], ◌∷◌, ◌++◌}
use Prim.Native.Nat.{ℕ, zero, suc, ◌+◌, ◌-◌, ◌*◌, ◌^◌, ◌≤◌}
use Rattle.std.proofs.Math.Numerals.{add-one}
use Rattle.std.proofs.Math.Decide.{ℕ_discrete}
use borrow.Author.Tests.{leb-true, le-leb, ne_eqb}
use Rattle.std.proofs.Math.Dec.{leb}
use Rattle.std.specs.Float.Ieee.{nan}
use Rattle.tree.specs.Flat.{Fits, own, put, put-lengths, own-put-other}
use Rattle.block.specs.Patch.{Valid, All, blk-all}
use Rattle.control.specs.Moves.{left_for, moved, pitch_moved, bend_moved}
use Rattle.sheet.specs.Record.{count_of, rate_of, option_of, number_of, record_at, kind}
use Rattle.sheet.specs.Checks.{all, check_of}
use Rattle.sheet.specs.Laws.{both, all-at, all_of}
use Rattle.lines.specs.Lines.{delay_line, chorus_line}
use Rattle.layout.specs.Built.{role, is_built}
use Rattle.layout.specs.Needs.{need_of, voices_of, noise_cells, reverb_cells, chain_length, cells, cells_from, registers_from}
use Rattle.layout.specs.Counts.{layout_of, rows_of, cell_rows, cells-with, cells-within, registers-within}
use Rattle.unit.specs.Own.{Own, silence}
use Rattle.unit.specs.Voice.{voice}
use Rattle.unit.specs.State.{own_ok, record_ok, rings_ok}
use Rattle.unit.specs.Sound.{OwnSound, UnitsKeep, units-keep, voice-valid}
use Rattle.machine.specs.Machine.{State, sound_ok, fill_check, samples, Answered, is_filter, scaled, Call, fill, call, machine}
use Rattle.machine.proofs.Samples.{block-samples, samples-position}
use Rattle.machine.specs.Cut.{Move, pitch_to, bend_to, cutoff_to, move_to}
use Rattle.machine.proofs.Cut.{Outcome, refusal, filling, moving, outcome}
use Rattle.machine.proofs.Laws.{fill-passed, passed-fill, fill-answer, fill-position, fill-sum, room-enough, SameLengths, samples-lengths, call-lengths}
use Rattle.machine.specs.Valid.{room_for, valid_ok}

module _ (s : List ℕ) where
  -- ---- check 9 as what holds of each record
  sound-built : (b c : Bool) → cond b c true ≡ true → b ≡ true → c ≡ true
  sound-built true c e h = e
  sound-built false c e h = let z : ◌≡◌ {A = ℕ} 0 1 = cc in let x : ⊥ = omega arith in absurd x

  built-sound : (b c : Bool) → (b ≡ true → c ≡ true) → cond b c true ≡ true
  built-sound true c h = h refl
  built-sound false c h = refl

  pub rings-all : (o : Own) → cells_from s (count_of s) ≤ length o.0 → registers_from s (count_of s) ≤ length o.1 → rings_ok s o ≡ true → All (voice s) (OwnSound s) o
  rings-all o h g e = record {
    room = λ j l. (omega (arith, cells-within s j l), omega (arith, registers-within s j l));
    each = λ j l. sound-built (is_built (role s j)) (own_ok s j (own (layout_of s) j o)) (all-at (record_ok s o) (count_of s) e j l);
  }

  pub all-rings : (o : Own) → All (voice s) (OwnSound s) o → rings_ok s o ≡ true
  all-rings o a = all_of (record_ok s o) (count_of s) (λ j l. built-sound (is_built (role s j)) (own_ok s j (own (layout_of s) j o)) (a.each j l))

  -- ---- a cutoff move: it writes the first two cells of filters, which are sound whatever they hold
  filter-between : (k : ℕ) → is_filter k ≡ true → (22 ≤ k) × (k ≤ 28)
  filter-between k e = let b = both (leb 22 k) (leb k 28) e in (leb-true 22 k b.0, leb-true k 28 b.1)

  filter-sound : (i : ℕ) (o : Own) → is_filter (kind s i) ≡ true → own_ok s i o ≡ true
  unfolding own_ok
  filter-sound i o e =
      let k = kind s i in
      let b = filter-between k e in
      rw (ne_eqb k 29 (λ z. omega (arith, b.1)), ne_eqb k 34 (λ z. omega (arith, b.1)), ne_eqb k 30 (λ z. omega (arith, b.1)), ne_eqb k 46 (λ z. omega (arith, b.1)))

  -- of the table of needs
  filter-rows : (v c d b m h k : ℕ) → is_filter k ≡ true → 2 ≤ need_of k (cell_rows v c d b m h)
  unfolding all need_of
  filter-rows v c d b m h k e =
      let l = filter-between k e in
      let z : 22 + (k - 22) ≡ k = omega (arith, l.0) in
      rw z at (leb-true 2 (need_of (22 + (k - 22)) (cell_rows v c d b m h)) (all-at (λ j. leb 2 (need_of (22 + j) (cell_rows v c d b m h))) 7 refl (k - 22) (omega (arith, l.0, l.1))))

  pub filter-cells : (i : ℕ) → is_built (role s i) ≡ true → is_filter (kind s i) ≡ true → 2 ≤ cells s i
  filter-cells i b e = rw (b, cells-with s i)
      (filter-rows (2 * voices_of (record_at s i)) (noise_cells (option_of (record_at s i))) (delay_line (number_of (record_at s i) 0) (rate_of s)) (reverb_cells (rate_of s)) (5 * chain_length s i)
      (chorus_line (number_of (record_at s i) 1) (rate_of s)) (kind s i) e)

  filter-all : (i : ℕ) (q o : Own) → Fits (layout_of s) i q → ((u : Own) → OwnSound s i u) → All (voice s) (OwnSound s) o → All (voice s) (OwnSound s) (put (layout_of s) i q o)
  filter-all i q o f h a =
      let l = put-lengths (layout_of s) i q o in
      record {
        room = λ j g. (omega (arith, l.0, (a.room j g).0), omega (arith, l.1, (a.room j g).1));
        each = λ j g. elim (ℕ_discrete i j) [
          | yes e ↦ subst (λ n. OwnSound s n (own (layout_of s) j (put (layout_of s) i q o))) e (h (own (layout_of s) j (put (layout_of s) i q o)))
          | no d ↦ subst (OwnSound s j) (sym (own-put-other (layout_of s) (rows_of s) i j d q o f)) (a.each j g)
        ];
      }

  scaled_at : (x : Float) (i : ℕ) (cs : List Float) (rs : List ℕ) (b f : Bool) → is_built (role s i) ≡ b → is_filter (kind s i) ≡ f
      → All (voice s) (OwnSound s) (scaled s x i cs, rs) → All (voice s) (OwnSound s) (scaled s x (suc i) cs, rs)
  unfolding scaled
  scaled_at x i cs rs true true eb ef a =
      rw (eb, ef, add-one (cells_from s i)) (filter-all i (x ∷ nan ∷ [], []) (scaled s x i cs, rs) (omega (arith, filter-cells i eb ef), omega arith) (λ u h. filter-sound i u ef) a)
  scaled_at x i cs rs true false eb ef a = rw (eb, ef) a
  scaled_at x i cs rs false f eb ef a = rw eb a

  pub scaled-all : (x : Float) (n : ℕ) (cs : List Float) (rs : List ℕ) → All (voice s) (OwnSound s) (cs, rs) → All (voice s) (OwnSound s) (scaled s x n cs, rs)
  unfolding scaled
  scaled-all x zero cs rs a = a
  scaled-all x (suc i) cs rs a = scaled_at x i cs rs (is_built (role s i)) (is_filter (kind s i)) refl refl (scaled-all x i cs rs a)

  -- ---- by tests
  room-same : {p q : State} → SameLengths p q → room_for s p ≡ true → room_for s q ≡ true
  room-same l h = rw (l.cells, l.registers, l.scratch) h

  valid-all : (p : State) → room_for s p ≡ true → rings_ok s (p.cells, p.registers) ≡ true → All (voice s) (OwnSound s) (p.cells, p.registers)
  valid-all p h e =
      let n = room-enough s (length p.cells) (length p.registers) (length p.scratch) h in
      rings-all (p.cells, p.registers) n.cells n.registers e

  pub scaled-kept : (x : Float) (n : ℕ) (p : State) → room_for s p ≡ true → rings_ok s (p.cells, p.registers) ≡ true → rings_ok s (scaled s x n p.cells, p.registers) ≡ true
  scaled-kept x n p h e = all-rings (scaled s x n p.cells, p.registers) (scaled-all x n p.cells p.registers (valid-all p h e))

  module _ (ok : Valid (voice s)) (kept : UnitsKeep s) where
    -- any number of samples
    pub sound-kept : (n : ℕ) (p : State) → room_for s p ≡ true → rings_ok s (p.cells, p.registers) ≡ true
        → let q = (samples s n p).1 in (room_for s q ≡ true) × (rings_ok s (q.cells, q.registers) ≡ true)
    sound-kept n p h e = (
      room-same (samples-lengths s n p) h,
      all-rings ((samples s n p).1.cells, (samples s n p).1.registers) (subst (λ (r : List Float × State). All (voice s) (OwnSound s) (r.1.cells, r.1.registers)) (sym (block-samples s n p))
          (blk-all (voice s) ok (OwnSound s) kept (moved p.controls) (replicate n silence) (p.cells, p.registers) (valid-all p h e))),
    )

    move-kept : (m : Move) (p : State) → room_for s p ≡ true → sound_ok s p.controls p.cells p.registers ≡ true
        → let q = move_to s m p in sound_ok s q.controls q.cells q.registers ≡ true
    unfolding pitch_moved bend_moved
    move-kept (pitch_to scale coefficient) p h e = e
    move-kept (bend_to x) p h e = e
    move-kept (cutoff_to x) p h e =
        let b = both (leb p.controls.position (2 ^ 62)) (rings_ok s (p.cells, p.registers)) e in
        rw b.0 (scaled-kept x (count_of s) p h b.1)

    call_kept : (k : Call) (p : State) (r : Answered × State) → Outcome s p k r → room_for s p ≡ true → sound_ok s p.controls p.cells p.registers ≡ true
        → sound_ok s r.1.controls r.1.cells r.1.registers ≡ true
    unfolding left_for
    call_kept k p r (refusal e) h g = g
    call_kept k p r (filling n a) h g =
        let b = both (leb p.controls.position (2 ^ 62)) (rings_ok s (p.cells, p.registers)) g in
        rw (samples-position s n p, (fill-passed s n p a).left) (sound-kept n p h b.1).1
    call_kept k p r (moving m a e) h g = move-kept m p h g

    -- A VALID STATE STAYS VALID, after a call and after a list of calls
    pub valid-call : (k : Call) (p : State) → valid_ok s p ≡ true → valid_ok s (call s k p).1 ≡ true
    valid-call k p e =
        let b = both (room_for s p) (sound_ok s p.controls p.cells p.registers) e in
        rw (room-same (call-lengths s k p) b.0) (call_kept k p (call s k p) (outcome s k p) b.0 b.1)

    pub valid-machine : (ks : List Call) (p : State) → valid_ok s p ≡ true → valid_ok s (machine s ks p).1 ≡ true
    unfolding machine
    valid-machine [] p e = e
    valid-machine (k ∷ ks) p e = valid-machine ks (call s k p).1 (valid-call k p e)

    -- ---- where a fill of a + b is accepted, so are a fill of a and then one of b, and they come to the same
    fill-left : (n b : ℕ) (p : State) → fill_check s (n + b) p ≡ 0 → fill_check s n p ≡ 0
    unfolding left_for
    fill-left n b p e =
        let a = fill-passed s (n + b) p e in
        let l = leb-true (p.controls.position + (n + b)) (2 ^ 62) a.left in
        passed-fill s n p (record { sheet = a.sheet; room = a.room; sound = a.sound; left = le-leb (p.controls.position + n) (2 ^ 62) (omega arith) })

    fill-right : (n b : ℕ) (p : State) → fill_check s (n + b) p ≡ 0 → fill_check s b (call s (fill n) p).1 ≡ 0
    unfolding left_for
    fill-right n b p e =
        let a = fill-passed s (n + b) p e in
        let l = leb-true (p.controls.position + (n + b)) (2 ^ 62) a.left in
        let v = both (room_for s (call s (fill n) p).1) _ (valid-call (fill n) p (rw a.room a.sound)) in
        let at = fill-position s n p (fill-left n b p e) in
        passed-fill s b (call s (fill n) p).1 (record {
          sheet = a.sheet;
          room = v.0;
          sound = v.1;
          left = le-leb ((call s (fill n) p).1.controls.position + b) (2 ^ 62) (omega (arith, at));
        })

    pub fill-cut : (a b : ℕ) (p : State) → (call s (fill (a + b)) p).0.0 ≡ 0 → let q = (call s (fill a) p).1 in
        ((call s (fill a) p).0.0 ≡ 0) × ((call s (fill b) q).0.0 ≡ 0)
        × ((call s (fill (a + b)) p).0.1 ≡ (call s (fill a) p).0.1 ++ (call s (fill b) q).0.1) × ((call s (fill (a + b)) p).1 ≡ (call s (fill b) q).1)
    fill-cut a b p e =
        let q = (call s (fill a) p).1 in
        let h = sym (fill-answer s (a + b) p) ∙ e in
        let d = fill-answer s a p ∙ fill-left a b p h in
        let c = fill-answer s b q ∙ fill-right a b p h in
        let r = fill-sum s a b p e d c in
        (d, c, r.0, r.1)

-- ---- for an accepted sheet nothing is assumed
module _ (s : List ℕ) (e : check_of s ≡ 0) where
  -- A VALID STATE STAYS VALID, whatever the call, and whatever the list of calls
  pub valid-stays : (k : Call) (p : State) → valid_ok s p ≡ true → valid_ok s (call s k p).1 ≡ true
  valid-stays = valid-call s (voice-valid s e) (units-keep s e)

  pub valid-lasts : (ks : List Call) (p : State) → valid_ok s p ≡ true → valid_ok s (machine s ks p).1 ≡ true
  valid-lasts = valid-machine s (voice-valid s e) (units-keep s e)

-- A FILL OF a + b IS A FILL OF a AND THEN A FILL OF b
pub fill-in-two : (s : List ℕ) (a b : ℕ) (p : State) → (call s (fill (a + b)) p).0.0 ≡ 0 → let q = (call s (fill a) p).1 in
    ((call s (fill a) p).0.0 ≡ 0) × ((call s (fill b) q).0.0 ≡ 0)
    × ((call s (fill (a + b)) p).0.1 ≡ (call s (fill a) p).0.1 ++ (call s (fill b) q).0.1) × ((call s (fill (a + b)) p).1 ≡ (call s (fill b) q).1)
fill-in-two s a b p h =
    let e = (fill-passed s (a + b) p (sym (fill-answer s (a + b) p) ∙ h)).sheet in
    fill-cut s (voice-valid s e) (units-keep s e) a b p h
