-- Build: the call that starts a voice in lent memory. It answers like the others, and what it leaves is valid.
use Rattle.std.specs.Prelude.{◌≡◌, Bool, true, false, cond, List, [], ◌++◌, eqb, length, take, drop, replicate, Float}
use Rattle.std.proofs.Math.Path.{refl, ap}
use Rattle.std.proofs.Common.{ap₂, ◌∙◌, append_assoc, eqb-true, length-drop, drop_at}
use Prim.Native.Nat.{ℕ, zero, suc, ◌≤◌, ◌<◌}
use native.Mathlib.Omega.{arith}
use Rattle.std.proofs.Math.Decide.{ℕ_discrete}
use Rattle.std.proofs.lemmas.Bool.{eqb-false}
use Rattle.std.proofs.Math.ListN.{length-append}
use Rattle.std.proofs.lemmas.List.{length-replicate}
use Rattle.std.proofs.Math.Seq.{take_at}
use Rattle.tree.specs.Flat.{seg, own}
use Rattle.control.specs.Moves.{fresh}
use Rattle.sheet.specs.Record.{count_of}
use Rattle.sheet.specs.Checks.{sum}
use Rattle.sheet.specs.Laws.{all_of}
use Rattle.layout.specs.Built.{role, is_built}
use Rattle.layout.specs.declared.Role.{Role}
use Rattle.layout.specs.declared.Role.TheVariants.{Out, Silent, Built}
use Rattle.layout.specs.Needs.{cells, registers, cells_from, registers_from, scratch_from}
use Rattle.layout.specs.Counts.{layout_of}
use Rattle.unit.specs.Own.{Own, silence}
use Rattle.unit.specs.State.{own_ok, record_ok, rings_ok}
use Rattle.unit.specs.Start.{start_cells, start_registers}
use Rattle.unit.specs.Laws.{start-cells, start-registers, start-ok}
use Rattle.machine.specs.Machine.{State, room_check, Answered}
use Rattle.machine.proofs.Laws.{SameLengths, room-passed, room-enough}
use Rattle.machine.specs.Valid.{room_for, valid_ok}
use Rattle.machine.specs.Build.{begun, brought_cells, brought_registers, build_of, joined, started_cells, started_registers}

-- ---- lists one after the other, of known lengths
module _ {A : Type 0} (f : ℕ → List A) (size : ℕ → ℕ) where
  pub joined_length : (n : ℕ) → ((i : ℕ) → i < n → length (f i) ≡ size i) → length (joined f n) ≡ sum size n
  unfolding joined sum
  joined_length zero h = refl
  joined_length (suc n) h = length-append (joined f n) (f n) ∙ omega (arith, joined_length n (λ i l. h i (omega arith)), h n (omega arith))

  -- list i stands where the sizes of those below it say
  pub joined-part : (n : ℕ) → ((i : ℕ) → i < n → length (f i) ≡ size i) → (rest : List A) (i : ℕ) → i < n → seg (sum size i) (size i) (joined f n ++ rest) ≡ f i
  unfolding joined
  joined-part zero h rest i l = let x : ⊥ = omega arith in absurd x
  joined-part (suc n) h rest i l =
      ap (seg (sum size i) (size i)) (append_assoc (joined f n) (f n) rest)
      ∙ elim (ℕ_discrete i n) [
        | yes e ↦ rw e (ap (take (size n)) (drop_at (joined f n) (f n ++ rest) (sum size n) (joined_length n (λ i l. h i (omega arith)))) ∙ take_at (f n) rest (size n) (h n (omega arith)))
        | no d ↦ joined-part n (λ i l. h i (omega arith)) (f n ++ rest) i (omega arith)
      ]

  -- laid over the front of a list it leaves the list's length
  pub joined-over : (n : ℕ) → ((i : ℕ) → i < n → length (f i) ≡ size i) → (l : List A) → sum size n ≤ length l → length (joined f n ++ drop (sum size n) l) ≡ length l
  joined-over n h l g = length-append (joined f n) (drop (sum size n) l) ∙ omega (arith, joined_length n h, length-drop (sum size n) l)

-- ---- each record brings as much as it needs
is-built : (r : Role) → is_built r ≡ true → r ≡ Built
is-built Built e = refl
is-built Out e = let z : ◌≡◌ {A = ℕ} 0 1 = cc in let x : ⊥ = omega arith in absurd x
is-built Silent e = let z : ◌≡◌ {A = ℕ} 0 1 = cc in let x : ⊥ = omega arith in absurd x

if-built : {A : Type 0} (b : Bool) (l : List A) (n : ℕ) → (b ≡ true → length l ≡ cond b n 0) → length (cond b l []) ≡ cond b n 0
if-built true l n h = h refl
if-built false l n h = refl

pub brought-cells : (s : List ℕ) (i : ℕ) → length (brought_cells s i) ≡ cells s i
brought-cells s i = if-built (is_built (role s i)) (start_cells s i) _ (λ e. start-cells s i (is-built (role s i) e))

pub brought-registers : (s : List ℕ) (i : ℕ) → length (brought_registers s i) ≡ registers s i
brought-registers s i = if-built (is_built (role s i)) (start_registers s i) _ (λ e. start-registers s i (is-built (role s i) e))

-- ---- what an accepted build leaves is valid
module _ (s : List ℕ) where
  -- a record's own part is what it brought
  started-own : (cs : List Float) (rs : List ℕ) (i : ℕ) → i < count_of s
      → own (layout_of s) i (started_cells s (count_of s) ++ cs, started_registers s (count_of s) ++ rs) ≡ (brought_cells s i, brought_registers s i)
  started-own cs rs i h = ap₂ {C = Own} (λ x y. (x, y))
      (joined-part (brought_cells s) (cells s) (count_of s) (λ j l. brought-cells s j) cs i h)
      (joined-part (brought_registers s) (registers s) (count_of s) (λ j l. brought-registers s j) rs i h)

  brought-ok : (i : ℕ) (b : Bool) → is_built (role s i) ≡ b → cond b (own_ok s i (cond b (start_cells s i) [], cond b (start_registers s i) [])) true ≡ true
  brought-ok i true e = start-ok s i (is-built (role s i) e)
  brought-ok i false e = refl

  pub started-ok : (cs : List Float) (rs : List ℕ) → rings_ok s (started_cells s (count_of s) ++ cs, started_registers s (count_of s) ++ rs) ≡ true
  started-ok cs rs = all_of (record_ok s _) (count_of s) (λ i h.
      ap (λ (o : Own). cond (is_built (role s i)) (own_ok s i o) true) (started-own cs rs i h) ∙ brought-ok i (is_built (role s i)) refl)

  pub begun-lengths : (p : State) → room_for s p ≡ true → SameLengths p (begun s p)
  begun-lengths p h =
      let e = room-enough s (length p.cells) (length p.registers) (length p.scratch) h in
      let n = count_of s in
      record {
        cells = joined-over (brought_cells s) (cells s) n (λ j l. brought-cells s j) p.cells e.cells;
        registers = joined-over (brought_registers s) (registers s) n (λ j l. brought-registers s j) p.registers e.registers;
        scratch = length-append (replicate (scratch_from s n) silence) (drop (scratch_from s n) p.scratch)
            ∙ omega (arith, length-replicate (scratch_from s n) silence, length-drop (scratch_from s n) p.scratch, e.scratch);
      }

  pub begun-valid : (p : State) → room_for s p ≡ true → valid_ok s (begun s p) ≡ true
  unfolding fresh
  begun-valid p h =
      let l = begun-lengths p h in
      rw (l.cells, l.registers, l.scratch, h, started-ok (drop (cells_from s (count_of s)) p.cells) (drop (registers_from s (count_of s)) p.registers))

  pub build-valid : (p : State) → (build_of s p).0.0 ≡ 0 → valid_ok s (build_of s p).1 ≡ true
  unfolding build_of
  build-valid p = go (eqb low 0) refl
    where
      low : ℕ
      low = room_check s (length p.cells) (length p.registers) (length p.scratch)

      go : (b : Bool) → eqb low 0 ≡ b → let r : Answered × State = cond b ((0, []), begun s p) ((low, []), p) in r.0.0 ≡ 0 → valid_ok s r.1 ≡ true
      go true e z = begun-valid p (room-passed s _ _ _ (eqb-true low 0 e)).1
      go false e z = absurd (eqb-false low 0 e z)
