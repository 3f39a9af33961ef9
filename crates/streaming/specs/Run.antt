-- A run of samples, block by block: what is made and left is what the sample machine makes and leaves, whatever the scratch held.
use Rattle.std.specs.Prelude.{◌≡◌, refl, List, ◌++◌, map, ℕ, ◌+◌, ◌-◌, ◌≤◌, length, take, drop, replicate, Float}
use Rattle.std.proofs.Common.{sym, ap, ◌∙◌, add-zero, arith, length-drop, length-append, length-take-le, take_at, take_all}
use Rattle.std.proofs.Math.Seq.{take-append-add}
use Rattle.tree.specs.Comm.{M, later}
use Rattle.tree.specs.Lists.{map-const}
use Rattle.block.specs.Patch.{source}
use Rattle.control.specs.declared.Controls.{Controls}
use Rattle.control.specs.Moves.{moved}
use Rattle.sheet.specs.Record.{count_of}
use Rattle.layout.specs.Needs.{scratch_from}
use Rattle.layout.proofs.Laws.{playable}
use Rattle.unit.specs.Own.{Own, silence}
use Rattle.unit.specs.Voice.{voice}
use Rattle.walk.specs.Walk.{Voiced, Sound, Sourced, sound-after}
use Rattle.machine.specs.Machine.{State, state, samples}
use Rattle.machine.specs.Samples.{tick}
use Rattle.machine.proofs.Samples.{samples-add, source-samples}

-- l numbers hold every block of n samples
pub record Buffer (n l : ℕ) : Type 0 where
  pub enough : (m : ℕ) → m ≤ 256 → m ≤ n → m ≤ l

-- n samples from the controls c: ys, and r, ds and ss are left
pub record Blocked (s : List ℕ) (n : ℕ) (c : Controls) (cs : List Float) (rs : List ℕ) (zs : List Float) (r : Controls) (ys ds : List Float) (ss : List ℕ) (ws : List Float) : Type 0 where
  pub is : (us : List Float) → ◌≡◌ {A = List Float × State} (ys, state r ds ss us) (samples s n (state c cs rs us))
  -- the scratch past the needs is as it was
  pub past : drop (scratch_from s (count_of s)) ws ≡ drop (scratch_from s (count_of s)) zs
  pub sound : Sound s ds ss

-- a block of the walk from record 0
pub blocked : {s : List ℕ} → Voiced s → (c : Controls) (xs cs : List Float) (rs : List ℕ) (zs ys ds : List Float) (ss : List ℕ) (ws : List Float) (n : ℕ) → length xs ≡ n → Sound s cs rs
    → Sourced s 0 (moved c) (map (λ x. silence) xs) cs rs zs ys ds ss ws → Blocked s n c cs rs zs (later tick n c) ys ds ss ws
blocked {s} v c xs cs rs zs ys ds ss ws n l a r =
    let p = playable s v.passed.passed in
    let e : ◌≡◌ {A = List Float × Own} (ys, (ds, ss)) (source (voice s) 0 (moved c) (replicate n silence) (cs, rs)) = r.is ∙ ap (λ (z : List Float). source (voice s) 0 (moved c) z (cs, rs)) (map-const silence xs ∙ ap (λ (k : ℕ). replicate k silence) l) in
    record {
      is = λ us. ap {B = List Float × State} (λ (t : List Float × Own). (t.0, state (later tick n c) t.1.0 t.1.1 us)) e ∙ sym (source-samples s v.valid p.alone n (state c cs rs us));
      past = r.kept.past;
      sound = sound-after v 0 p.some (moved c) _ cs rs ys ds ss a r.is;
    }

-- ---- the loop over the blocks: d samples are made
pub record Running (s : List ℕ) (c : Controls) (xs cs : List Float) (rs : List ℕ) (zs : List Float) (r : Controls) (ys ds : List Float) (ss : List ℕ) (ws : List Float) (d : ℕ) : Type 0 where
  pub outs : length ys ≡ length xs
  pub cells_long : length ds ≡ length cs
  pub registers_long : length ss ≡ length rs
  pub scr : length ws ≡ length zs
  pub bound : d ≤ length xs
  pub at_position : r.position ≡ c.position + d
  pub is : (us : List Float) → ◌≡◌ {A = List Float × State} (take d ys, state r ds ss us) (samples s d (state c cs rs us))
  pub past : drop (scratch_from s (count_of s)) ws ≡ drop (scratch_from s (count_of s)) zs
  pub sound : Sound s ds ss

pub run-start : (s : List ℕ) (c : Controls) (xs cs : List Float) (rs : List ℕ) (zs : List Float) → Sound s cs rs → Running s c xs cs rs zs c xs cs rs zs 0
unfolding samples
run-start s c xs cs rs zs a = record {
  outs = refl;
  cells_long = refl;
  registers_long = refl;
  scr = refl;
  bound = omega arith;
  at_position = sym (add-zero c.position);
  is = λ us. refl;
  past = refl;
  sound = a;
}

pub run-turn : (s : List ℕ) (c : Controls) (xs cs : List Float) (rs : List ℕ) (zs : List Float) (r : Controls) (ys ds : List Float) (ss : List ℕ) (ws : List Float) (d m e : ℕ)
    (q : Controls) (bs es : List Float) (ts : List ℕ) (vs : List Float) → Running s c xs cs rs zs r ys ds ss ws d → e ≡ d + m → e ≤ length xs → length bs ≡ m
    → length es ≡ length ds → length ts ≡ length ss → length vs ≡ length ws → q.position ≡ r.position + m
    → Blocked s m r ds ss ws q bs es ts vs → Running s c xs cs rs zs q (take d ys ++ (bs ++ drop (e - d) (drop d ys))) es ts vs e
run-turn s c xs cs rs zs r ys ds ss ws d m e q bs es ts vs v ee h lb l1 l2 l3 p b =
    let ld : length (take d ys) ≡ d = length-take-le d ys (omega (arith, v.outs)) in
    let lr : length (drop (e - d) (drop d ys)) ≡ length xs - e = simp length-drop (omega (arith, v.outs)) in
    record {
      outs = simp (length-append, length-append) (omega (arith, lr, ld, v.outs));
      cells_long = l1 ∙ v.cells_long;
      registers_long = l2 ∙ v.registers_long;
      scr = l3 ∙ v.scr;
      bound = h;
      at_position = omega (arith, v.at_position);
      is = λ us. ap {B = List Float × State} (λ (l : List Float). (l, state q es ts us)) (taken ld)
          ∙ ap {B = List Float × State} (λ (t : List Float × State). (take d ys ++ t.0, t.1)) (b.is us)
          ∙ ap {B = List Float × State} (λ (t : List Float × State). (t.0 ++ (samples s m t.1).0, (samples s m t.1).1)) (v.is us)
          ∙ sym (ap (λ (f : M State (List Float)). f (state c cs rs us)) (samples-add s d m))
          ∙ ap (λ (k : ℕ). samples s k (state c cs rs us)) (sym ee);
      past = b.past ∙ v.past;
      sound = b.sound;
    }
  where
    taken : length (take d ys) ≡ d → take e (take d ys ++ (bs ++ drop (e - d) (drop d ys))) ≡ take d ys ++ bs
    taken ld = ap (λ (k : ℕ). take k (take d ys ++ (bs ++ drop (e - d) (drop d ys)))) (ee ∙ ap (λ (k : ℕ). k + m) (sym ld))
        ∙ take-append-add (take d ys) (bs ++ drop (e - d) (drop d ys)) m ∙ ap (λ (l : List Float). take d ys ++ l) (take_at bs (drop (e - d) (drop d ys)) m lb)

pub run_end : (s : List ℕ) (c : Controls) (xs cs : List Float) (rs : List ℕ) (zs : List Float) (r : Controls) (ys ds : List Float) (ss : List ℕ) (ws : List Float) (d : ℕ)
    → Running s c xs cs rs zs r ys ds ss ws d → length xs ≤ d → Blocked s (length xs) c cs rs zs r ys ds ss ws
run_end s c xs cs rs zs r ys ds ss ws d v h =
    let e : d ≡ length xs = omega (arith, v.bound) in
    record {
      is = λ us. ap {B = List Float × State} (λ (l : List Float). (l, state r ds ss us)) (sym (take_all d ys (omega (arith, v.outs)))) ∙ v.is us ∙ ap (λ (k : ℕ). samples s k (state c cs rs us)) e;
      past = v.past;
      sound = v.sound;
    }
