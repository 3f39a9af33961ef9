-- Laws of single calls: what is refused does nothing, a fill of length 0 does nothing, a fill of a + b is a fill of a and then one of b, and no call changes how long the lists are.
use Rattle.std.specs.Prelude.{◌≡◌, refl, Bool, true, false, cond, ◌&&◌, List, [], ◌∷◌, ◌++◌, ◌≢◌, ℕ, zero, suc, ◌+◌, ◌≤◌, eqb, leb, length, replicate, Float}
use Rattle.std.proofs.Common.{sym, ap, ◌∙◌, append-nil, arith, eqb-true, leb-true, length-append, length-drop, length-set}
use Rattle.std.proofs.lemmas.Bool.{eqb-false}
use Rattle.std.proofs.lemmas.List.{length-replicate}
use Rattle.tree.specs.Comm.{blk-keeps}
use Rattle.tree.specs.Tree.{piping, made-keeps, run-made}
use Rattle.tree.specs.Forest.{root}
use Rattle.tree.specs.Flat.{own, put-lengths}
use Rattle.block.specs.Patch.{rack, src, Long}
use Rattle.control.specs.declared.Controls.{Controls}
use Rattle.control.specs.Moves.{left_for, moved, following}
use Rattle.sheet.specs.Record.{count_of, kind}
use Rattle.sheet.specs.Checks.{lowest, check_of}
use Rattle.sheet.specs.Laws.{both}
use Rattle.layout.specs.Built.{role, is_built, after}
use Rattle.layout.specs.Counts.{layout_of}
use Rattle.layout.specs.Needs.{cells_from, registers_from, scratch_from}
use Rattle.unit.specs.Own.{Own, silence}
use Rattle.unit.specs.Unit.{unit_of}
use Rattle.unit.specs.Voice.{voice, entered}
use Rattle.machine.specs.Machine.{State, room_ok, sound_ok, room_check, fill_check, samples, Answered, cleared, rested, fill_of, is_filter, scaled, Call, fill, call, machine}
use Rattle.machine.proofs.Samples.{block, block-samples, samples-length, samples-position, samples-scratch}
use Rattle.machine.specs.Cut.{Move, pitch_to, bend_to, cutoff_to, move_to, made, plan_from, total}
use Rattle.machine.proofs.Cut.{Outcome, refusal, filling, moving, outcome, cut}

-- ---- refused, and of length 0
pub refused-nothing : (s : List ℕ) (k : Call) (p : State) → (call s k p).0.0 ≢ 0 → ((call s k p).0.1 ≡ []) × ((call s k p).1 ≡ p)
refused-nothing s k p d = go k (call s k p) (outcome s k p) d
  where
    go : (k : Call) (r : Answered × State) → Outcome s p k r → r.0.0 ≢ 0 → (r.0.1 ≡ []) × (r.1 ≡ p)
    go k r (refusal e) d = (refl, refl)
    go k r (filling n a) d = absurd (d refl)
    go k r (moving m a e) d = absurd (d refl)

pub fill_none : (s : List ℕ) (p : State) → ((call s (fill 0) p).0.1 ≡ []) × ((call s (fill 0) p).1 ≡ p)
unfolding call fill_of samples
fill_none s p = go (eqb (fill_check s 0 p) 0) refl
  where
    go : (b : Bool) → eqb (fill_check s 0 p) 0 ≡ b → ((fill_of s 0 p).0.1 ≡ []) × ((fill_of s 0 p).1 ≡ p)
    go true e = rw e (refl, refl)
    go false e = rw e (refl, refl)

-- ---- a fill of a + b
pub fill-sum : (s : List ℕ) (a b : ℕ) (p : State) → let q = (call s (fill a) p).1 in
    (call s (fill (a + b)) p).0.0 ≡ 0 → (call s (fill a) p).0.0 ≡ 0 → (call s (fill b) q).0.0 ≡ 0
    → ((call s (fill (a + b)) p).0.1 ≡ (call s (fill a) p).0.1 ++ (call s (fill b) q).0.1) × ((call s (fill (a + b)) p).1 ≡ (call s (fill b) q).1)
unfolding plan_from total machine
fill-sum s a b p e d c =
    let q = (call s (fill a) p).1 in
    let n : a + b + 0 ≡ a + (b + 0) = omega arith in
    let r = cut s (fill (a + b) ∷ []) (fill a ∷ fill b ∷ []) p (rw (e, d, c)) (rw (e, d, c) n) in
    (sym (append-nil (call s (fill (a + b)) p).0.1) ∙ r.0 ∙ ap (λ (l : List Float). (call s (fill a) p).0.1 ++ l) (append-nil (call s (fill b) q).0.1), r.1)

-- ---- what an accepted fill passed
low-then : (low x : ℕ) → cond (eqb low 0) x low ≡ 0 → (low ≡ 0) × (x ≡ 0)
low-then low x e = go (eqb low 0) refl e
  where
    go : (b : Bool) → eqb low 0 ≡ b → cond b x low ≡ 0 → (low ≡ 0) × (x ≡ 0)
    go true h e = (eqb-true low 0 h, e)
    go false h e = absurd (eqb-false low 0 h e)

passes : (b : Bool) (n x : ℕ) → n ≢ 0 → cond b x n ≡ 0 → (b ≡ true) × (x ≡ 0)
passes true n x d e = (refl, e)
passes false n x d e = absurd (d e)

pub room-passed : (s : List ℕ) (nc nr ns : ℕ) → room_check s nc nr ns ≡ 0 → (check_of s ≡ 0) × (room_ok s nc nr ns ≡ true)
unfolding room_check lowest
room-passed s nc nr ns e =
    let a = low-then (check_of s) _ e in
    (a.0, (passes (room_ok s nc nr ns) 8 0 (λ z. omega arith) a.1).0)

pub record Passed (s : List ℕ) (n : ℕ) (p : State) : Type 0 where
  pub sheet : check_of s ≡ 0
  pub room : room_ok s (length p.cells) (length p.registers) (length p.scratch) ≡ true
  pub sound : sound_ok s p.controls p.cells p.registers ≡ true
  pub left : left_for p.controls.position n ≡ true

pub fill-passed : (s : List ℕ) (n : ℕ) (p : State) → fill_check s n p ≡ 0 → Passed s n p
unfolding fill_check lowest
fill-passed s n p e =
    let a = low-then (room_check s (length p.cells) (length p.registers) (length p.scratch)) _ e in
    let r = room-passed s (length p.cells) (length p.registers) (length p.scratch) a.0 in
    let b = passes (sound_ok s p.controls p.cells p.registers) 9 _ (λ z. omega arith) a.1 in
    let c = passes (left_for p.controls.position n) 10 0 (λ z. omega arith) b.1 in
    record { sheet = r.0; room = r.1; sound = b.0; left = c.0 }

pub passed-fill : (s : List ℕ) (n : ℕ) (p : State) → Passed s n p → fill_check s n p ≡ 0
unfolding fill_check room_check lowest
passed-fill s n p a = rw (a.sheet, a.room, a.sound, a.left)

pub fill-answer : (s : List ℕ) (n : ℕ) (p : State) → (call s (fill n) p).0.0 ≡ fill_check s n p
unfolding call fill_of
fill-answer s n p = go (eqb (fill_check s n p) 0) refl
  where
    go : (b : Bool) → eqb (fill_check s n p) 0 ≡ b → (fill_of s n p).0.0 ≡ fill_check s n p
    go true e = rw e (sym (eqb-true (fill_check s n p) 0 e))
    go false e = rw e

pub fill-position : (s : List ℕ) (n : ℕ) (p : State) → fill_check s n p ≡ 0 → (call s (fill n) p).1.controls.position ≡ p.controls.position + n
unfolding call fill_of
fill-position s n p e = rw e (samples-position s n p)

-- what is lent is enough
pub record Enough (s : List ℕ) (nc nr ns : ℕ) : Type 0 where
  pub cells : cells_from s (count_of s) ≤ nc
  pub registers : registers_from s (count_of s) ≤ nr
  pub scratch : scratch_from s (count_of s) ≤ ns

pub room-enough : (s : List ℕ) (nc nr ns : ℕ) → room_ok s nc nr ns ≡ true → Enough s nc nr ns
room-enough s nc nr ns e =
    let a = both _ (leb (scratch_from s (count_of s)) ns) e in
    let b = both (leb (cells_from s (count_of s)) nc) (leb (registers_from s (count_of s)) nr) a.0 in
    record { cells = leb-true _ _ b.0; registers = leb-true _ _ b.1; scratch = leb-true _ _ a.1 }

-- ---- lengths
pub record SameLengths (p q : State) : Type 0 where
  pub cells : length q.cells ≡ length p.cells
  pub registers : length q.registers ≡ length p.registers
  pub scratch : length q.scratch ≡ length p.scratch

lengths-then : {p q r : State} → SameLengths p q → SameLengths q r → SameLengths p r
lengths-then a b = record { cells = b.cells ∙ a.cells; registers = b.registers ∙ a.registers; scratch = b.scratch ∙ a.scratch }

src-long : (s : List ℕ) (o : Own) (t : Controls) (x : Float) (u : Own) → Long o u → Long o (src (voice s) t x u).1
unfolding src
src-long s o t x u l = made-keeps (rack (voice s)) (Long o)
    (λ j v vs y w i m. let d = put-lengths (layout_of s) j (unit_of s j v vs y (own (layout_of s) j w)).1 w in record { cells = d.0 ∙ m.cells; regs = d.1 ∙ m.regs })
    (run-made (rack (voice s)) (root (entered s) (after s) (count_of s)) piping t x) u l

block-long : (s : List ℕ) (n : ℕ) (c : Controls) (o : Own) → Long o (block s n c o).1
block-long s n c o = blk-keeps following (Long o) (src (voice s)) (src-long s o) (moved c) (replicate n silence) o (record { cells = refl; regs = refl })

pub samples-lengths : (s : List ℕ) (n : ℕ) (p : State) → SameLengths p (samples s n p).1
samples-lengths s n p =
    let e = block-samples s n p in
    let l = block-long s n p.controls (p.cells, p.registers) in
    record {
      cells = ap (λ (r : List Float × State). length r.1.cells) e ∙ l.cells;
      registers = ap (λ (r : List Float × State). length r.1.registers) e ∙ l.regs;
      scratch = ap length (samples-scratch s n p);
    }

pub scaled-length : (s : List ℕ) (x : Float) (n : ℕ) (cs : List Float) → length (scaled s x n cs) ≡ length cs
unfolding scaled
scaled-length s x zero cs = refl
scaled-length s x (suc i) cs = go (is_built (role s i) && is_filter (kind s i)) refl (scaled-length s x i cs)
  where
    go : (b : Bool) → is_built (role s i) && is_filter (kind s i) ≡ b → length (scaled s x i cs) ≡ length cs → length (scaled s x (suc i) cs) ≡ length cs
    go true e h = rw e (simp length-set h)
    go false e h = rw e h

rested-lengths : (s : List ℕ) (n : ℕ) (p : State) → scratch_from s (count_of s) ≤ length p.scratch → SameLengths p (rested s n p)
rested-lengths s n p h = record { cells = refl; registers = refl; scratch = go (eqb n 0) }
  where
    go : (b : Bool) → length (cond b p.scratch (cleared s p.scratch)) ≡ length p.scratch
    go true = refl
    go false = simp (length-append, length-drop, length-replicate) (omega arith)

move-lengths : (s : List ℕ) (m : Move) (p : State) → SameLengths p (move_to s m p)
move-lengths s (pitch_to scale coefficient) p = record { cells = refl; registers = refl; scratch = refl }
move-lengths s (bend_to x) p = record { cells = refl; registers = refl; scratch = refl }
move-lengths s (cutoff_to x) p = record { cells = scaled-length s x (count_of s) p.cells; registers = refl; scratch = refl }

-- a fill clears scratch only where check 8 found enough of it
pub call-lengths : (s : List ℕ) (k : Call) (p : State) → SameLengths p (call s k p).1
call-lengths s k p = go k (call s k p) (outcome s k p)
  where
    go : (k : Call) (r : Answered × State) → Outcome s p k r → SameLengths p r.1
    go k r (refusal e) = record { cells = refl; registers = refl; scratch = refl }
    go k r (filling n a) =
        let l = samples-lengths s n p in
        let h = room-enough s (length p.cells) (length p.registers) (length p.scratch) (fill-passed s n p a).room in
        lengths-then l (rested-lengths s n (samples s n p).1 (omega (arith, h.scratch, l.scratch)))
    go k r (moving m a e) = move-lengths s m p

pub machine-lengths : (s : List ℕ) (ks : List Call) (p : State) → SameLengths p (machine s ks p).1
unfolding machine
machine-lengths s [] p = record { cells = refl; registers = refl; scratch = refl }
machine-lengths s (k ∷ ks) p = lengths-then (call-lengths s k p) (machine-lengths s ks (call s k p).1)

-- ---- a call makes as many samples as it is counted with, and so does a list
call-made : (s : List ℕ) (k : Call) (p : State) → length (call s k p).0.1 ≡ made k (call s k p)
call-made s k p = go k (call s k p) (outcome s k p)
  where
    go : (k : Call) (r : Answered × State) → Outcome s p k r → length r.0.1 ≡ made k r
    go k r (refusal e) = rw e
    go k r (filling n a) = samples-length s n p
    go k r (moving m a e) = rw a

pub total-length : (s : List ℕ) (ks : List Call) (p : State) → length (machine s ks p).0.1 ≡ total s ks p
unfolding machine total
total-length s [] p = refl
total-length s (k ∷ ks) p = simp length-append (omega (arith, call-made s k p, total-length s ks (call s k p).1))
