-- No call touches cells, registers or scratch past the needs.
use Rattle.std.specs.Prelude.{◌≡◌, refl, Bool, true, false, cond, List, [], ◌∷◌, ℕ, zero, suc, ◌+◌, ◌≤◌, ◌<◌, eqb, length, drop, set, replicate, Float}
use Rattle.std.specs.Float.{nan}
use Rattle.std.proofs.Common.{ap, ◌∙◌, arith, drop_at}
use Rattle.std.proofs.lemmas.List.{length-replicate}
use Rattle.std.proofs.Math.Seq.{sets, drop-set-lt}
use Rattle.tree.specs.Comm.{blk-keeps}
use Rattle.tree.specs.Tree.{piping, made-keeps, run-made}
use Rattle.tree.specs.Forest.{root, root-all}
use Rattle.tree.specs.Flat.{own, own-fits}
use Rattle.block.specs.Patch.{rack, src}
use Rattle.control.specs.declared.Controls.{Controls}
use Rattle.control.specs.Moves.{moved, following}
use Rattle.sheet.specs.Record.{count_of, kind}
use Rattle.sheet.specs.Checks.{check_of}
use Rattle.layout.specs.Built.{role, is_built, after}
use Rattle.layout.specs.Counts.{layout_of, cells-within, registers-within}
use Rattle.layout.specs.Needs.{cells, registers, cells_from, registers_from, scratch_from}
use Rattle.unit.specs.Own.{Own, silence}
use Rattle.unit.specs.Unit.{unit_of}
use Rattle.unit.specs.Voice.{voice, entered}
use Rattle.unit.specs.Laws.{unit-fits}
use Rattle.unit.specs.Sound.{voice-valid}
use Rattle.machine.specs.Machine.{State, room_check, samples, Answered, cleared, is_filter, scaled, Call, call, machine}
use Rattle.machine.proofs.Samples.{block-samples, samples-scratch}
use Rattle.machine.specs.Cut.{Move, pitch_to, bend_to, cutoff_to, move_to}
use Rattle.machine.proofs.Cut.{Outcome, refusal, filling, moving, outcome}
use Rattle.machine.proofs.Laws.{fill-passed}
use Rattle.machine.proofs.Valid.{filter-cells}
use Rattle.machine.specs.Build.{begun, brought_cells, brought_registers, build_of, started_cells, started_registers}
use Rattle.machine.proofs.Build.{joined_length, brought-cells, brought-registers}
use Rattle.machine.specs.Past.{Past, Kept}

drop-sets : {A : Type 0} (vs l : List A) (i n : ℕ) → i + length vs ≤ n → drop n (sets l i vs) ≡ drop n l
drop-sets [] l i n h = refl
drop-sets (v ∷ vs) l i n h = drop-sets vs (set l i v) (suc i) n (omega arith) ∙ drop-set-lt n l i v (omega arith)

module _ (s : List ℕ) where
  src-past : check_of s ≡ 0 → (o : Own) (t : Controls) (x : Float) (u : Own) → Past s o u → Past s o (src (voice s) t x u).1
  unfolding src
  src-past e o t x u a = made-keeps (rack (voice s)) (Past s o)
      (λ j v vs y w i m.
      let l = root-all (entered s) (after s) (λ k. k < count_of s) (λ k l. (voice-valid s e).first_in k) (λ k l. (voice-valid s e).next_in k) (count_of s) (voice-valid s e).some i in
      let f = own-fits (layout_of s) j w in
      let g = unit-fits s e j v vs y (own (layout_of s) j w) f.0 f.1 in
      let q = (unit_of s j v vs y (own (layout_of s) j w)).1 in
      record {
        cells = drop-sets q.0 w.0 (cells_from s j) (cells_from s (count_of s)) (omega (arith, g.0, cells-within s j l)) ∙ m.cells;
        registers = drop-sets q.1 w.1 (registers_from s j) (registers_from s (count_of s)) (omega (arith, g.1, registers-within s j l)) ∙ m.registers;
      })
      (run-made (rack (voice s)) (root (entered s) (after s) (count_of s)) piping t x) u a

  samples-past : check_of s ≡ 0 → (n : ℕ) (p : State) → let q = (samples s n p).1 in Past s (p.cells, p.registers) (q.cells, q.registers)
  samples-past e n p =
      let o : Own = (p.cells, p.registers) in
      let b = blk-keeps following (Past s o) (src (voice s)) (src-past e o) (moved p.controls) (replicate n silence) o (record { cells = refl; registers = refl }) in
      let h = block-samples s n p in
      record {
        cells = ap (λ (r : List Float × State). drop (cells_from s (count_of s)) r.1.cells) h ∙ b.cells;
        registers = ap (λ (r : List Float × State). drop (registers_from s (count_of s)) r.1.registers) h ∙ b.registers;
      }

  scaled-past : (x : Float) (n : ℕ) → n ≤ count_of s → (cs : List Float) → drop (cells_from s (count_of s)) (scaled s x n cs) ≡ drop (cells_from s (count_of s)) cs
  unfolding scaled
  scaled-past x zero h cs = refl
  scaled-past x (suc i) h cs = go (is_built (role s i)) (is_filter (kind s i)) refl refl (scaled-past x i (omega arith) cs)
    where
      end : ℕ
      end = cells_from s (count_of s)

      go : (b f : Bool) → is_built (role s i) ≡ b → is_filter (kind s i) ≡ f → drop end (scaled s x i cs) ≡ drop end cs → drop end (scaled s x (suc i) cs) ≡ drop end cs
      go true true eb ef l =
          let m = filter-cells s i eb ef in
          let w = cells-within s i (omega arith) in
          rw (eb, ef) (drop-set-lt end (set (scaled s x i cs) (cells_from s i) x) (cells_from s i + 1) nan (omega (arith, m, w)) ∙ drop-set-lt end (scaled s x i cs) (cells_from s i) x (omega (arith, m, w)) ∙ l)
      go true false eb ef l = rw (eb, ef) l
      go false f eb ef l = rw eb l

  rested-past : (n : ℕ) (zs : List Float) → drop (scratch_from s (count_of s)) (cond (eqb n 0) zs (cleared s zs)) ≡ drop (scratch_from s (count_of s)) zs
  rested-past n zs = go (eqb n 0)
    where
      go : (b : Bool) → drop (scratch_from s (count_of s)) (cond b zs (cleared s zs)) ≡ drop (scratch_from s (count_of s)) zs
      go true = refl
      go false = let k = scratch_from s (count_of s) in drop_at (replicate k silence) (drop k zs) k (length-replicate k silence)

  move-past : (m : Move) (p : State) → Kept s p (move_to s m p)
  move-past (pitch_to x g) p = record { own = record { cells = refl; registers = refl }; scratch = refl }
  move-past (bend_to x) p = record { own = record { cells = refl; registers = refl }; scratch = refl }
  move-past (cutoff_to x) p = record { own = record { cells = scaled-past x (count_of s) (omega arith) p.cells; registers = refl }; scratch = refl }

  -- NOTHING PAST THE NEEDS, after a call, after a list of calls, and after a build; on any sheet, since only an accepted one is played
  pub call-past : (k : Call) (p : State) → Kept s p (call s k p).1
  call-past k p = go k (call s k p) (outcome s k p)
    where
      go : (k : Call) (r : Answered × State) → Outcome s p k r → Kept s p r.1
      go k r (refusal d) = record { own = record { cells = refl; registers = refl }; scratch = refl }
      go k r (filling n a) = record {
        own = samples-past (fill-passed s n p a).sheet n p;
        scratch = rested-past n (samples s n p).1.scratch ∙ ap (drop (scratch_from s (count_of s))) (samples-scratch s n p);
      }
      go k r (moving m a d) = move-past m p

  pub machine-past : (ks : List Call) (p : State) → Kept s p (machine s ks p).1
  unfolding machine
  machine-past [] p = record { own = record { cells = refl; registers = refl }; scratch = refl }
  machine-past (k ∷ ks) p =
      let a = call-past k p in
      let b = machine-past ks (call s k p).1 in
      record { own = record { cells = b.own.cells ∙ a.own.cells; registers = b.own.registers ∙ a.own.registers }; scratch = b.scratch ∙ a.scratch }

  pub build-past : (p : State) → Kept s p (build_of s p).1
  unfolding build_of
  build-past p = go (eqb low 0)
    where
      low : ℕ
      low = room_check s (length p.cells) (length p.registers) (length p.scratch)

      n : ℕ
      n = count_of s

      go : (b : Bool) → let r : Answered × State = cond b ((0, []), begun s p) ((low, []), p) in Kept s p r.1
      go true = record {
        own = record {
          cells = drop_at (started_cells s n) (drop (cells_from s n) p.cells) (cells_from s n) (joined_length (brought_cells s) (cells s) n (λ i l. brought-cells s i));
          registers = drop_at (started_registers s n) (drop (registers_from s n) p.registers) (registers_from s n) (joined_length (brought_registers s) (registers s) n (λ i l. brought-registers s i));
        };
        scratch = rested-past 1 p.scratch;
      }
      go false = record { own = record { cells = refl; registers = refl }; scratch = refl }
