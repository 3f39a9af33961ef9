-- Laws of the units: a unit keeps the sizes of what its record owns and what check 9 asks of it; what a record starts with has those sizes and passes the check.
use Rattle.std.specs.Prelude.{◌≡◌, Bool, true, false, cond, ◌&&◌, ◌≢◌, ◌⊎◌, eqb, ltb, pos, set, replicate, Float}
use Rattle.std.proofs.Math.Path.{refl, sym, ap, subst}
use Rattle.std.proofs.Common.{◌∙◌, mod-lt, arith, eqb-true, ltb-true, ltb-false, lt-ltb, ne_eqb, length-append, get_or-set_same, get_or-set_other}
use mathlib.Core.List.{List, [], ◌∷◌}
use Rattle.std.proofs.Math.Logic.{inl, inr}
use Prim.Native.Nat.{ℕ, zero, suc, ◌+◌, ◌-◌, ◌*◌, ◌≤◌, ◌<◌}
use Rattle.std.proofs.Math.Nat.{le-max_right}
use Rattle.std.proofs.Math.Decide.{ℕ_discrete, dec_lt}
use Rattle.std.proofs.lemmas.Bool.{eqb-false}
use Rattle.std.proofs.Math.ListN.{length, length-set}
use Rattle.std.proofs.lemmas.List.{length-replicate}
use Rattle.std.proofs.Math.Seq.{set_out}
use Rattle.std.specs.Float.{binary32}
use Rattle.std.specs.Float.Ieee.{le, lt, eq, of_bits, of_int, round, units as units_of}
use Rattle.std.specs.Float.Ieee.Order.{round_mono}
use Rattle.ieee.proofs.Tests.{two_to, is_true, one-32}
use Rattle.float.specs.Order.{clamp_of}
use Rattle.float.specs.Single.{one, zero as zero_f}
use Rattle.tree.specs.Block.{tab, length-tab}
use Rattle.block.specs.Bank.{units}
use Rattle.block.specs.Iterate.{at, word}
use Rattle.dsl.specs.declared.SuperWave.{SuperWave}
use Rattle.dsl.specs.declared.NoiseColor.TheVariants.{Brown}
use Rattle.dsl.specs.Options.{noise_color_of}
use Rattle.lines.specs.Lines.{delay_line, chorus_base, chorus_swing, chorus_line, tuned_line, reverb_lines}
use Rattle.dsp.specs.Coefficients.{feedback_of}
use Rattle.line_step.specs.Line.{next_place}
use Rattle.source.specs.Oscillators.{hertz}
use Rattle.unpitched.specs.Others.{pink_of}
use Rattle.rand_value.specs.Rand.{rand_increment}
use Rattle.rand_value.proofs.RandPhase.{phase-kept, increment-bound}
use Rattle.super_block.specs.Super.{voice_at, super_of}
use Rattle.modal_block.specs.Modal.{mode_step, put_mode, modal_of}
use Rattle.reverb_block.specs.Reverb.{Wet, comb_at, allpass_at, reverb_of}
use Rattle.control.specs.declared.Controls.{Controls}
use Rattle.sheet.specs.Record.{count_of, rate_of, length_of, option_of, number_of, record_at, kind}
use Rattle.sheet.specs.Kinds.{row_of, lookup}
use Rattle.sheet.specs.declared.Value.{Value}
use Rattle.sheet.specs.Value.{value_as, value_of}
use Rattle.sheet.specs.Checks.{all, check_of}
use Rattle.sheet.specs.Laws.{both, all-at, all_of}
use Rattle.sheet.specs.Accepted.{kind-past}
use Rattle.layout.specs.Built.{role, is_built}
use Rattle.layout.specs.declared.Role.TheVariants.{Built}
use Rattle.layout.specs.Good.{good}
use Rattle.layout.specs.Needs.{need_of, noise_cells, chain_length, cells_by, registers_by, cells, registers}
use Rattle.layout.proofs.Contents.{option-in}
use Rattle.layout.specs.Counts.{cells_with, registers_with, cells-with, registers-with, cells-built, registers-built}
use Rattle.unit.specs.Own.{Own, Ugen, stateless, silent_unit}
use Rattle.unit.specs.Values.{rand_unit, value_unit, walk_of}
use Rattle.unit.specs.Sources.{sine_unit, square_unit, saw_unit, triangle_unit, fm_unit, super_unit, white_unit, pink_unit, brown_unit, noise_unit, dust_unit, source_unit}
use Rattle.unit.specs.Processors.{filter_unit, delay_unit, chorus_unit, reverb_unit, modal_unit, antialiased_unit, drive_unit, compress_unit, processor_unit}
use Rattle.unit.specs.Unit.{steps_of, srf, kind_unit, unit_of}
use Rattle.unit.specs.State.{place_ok, places_ok, phase_ok, own_ok}
use Rattle.unit.specs.Start.{modal_start, start_cells, start_registers}

-- ---- a test: what holds of both answers, each under what the test says there
on-cond : {A : Type 0} (P : A → Type 0) (b : Bool) {x y : A} → (b ≡ true → P x) → (b ≡ false → P y) → P (cond b x y)
on-cond P true p q = p refl
on-cond P false p q = q refl

at-kind : {A : Type 0} (P : A → Type 0) (k j : ℕ) {x y : A} → (k ≡ j → P x) → (k ≢ j → P y) → P (cond (eqb k j) x y)
at-kind P k j p q = on-cond P (eqb k j) (λ e. p (eqb-true k j e)) (λ e. q (eqb-false k j e))

-- f is v at n numbers from a on, as a test of each says
all-over : (f : ℕ → ℕ) (a n v : ℕ) → all (λ j. eqb (f (a + j)) v) n ≡ true → (k : ℕ) → a ≤ k → k < a + n → f k ≡ v
all-over f a n v e k l h =
    let q : k ≡ a + (k - a) = omega arith in
    ap f q ∙ eqb-true (f (a + (k - a))) v (all-at (λ j. eqb (f (a + j)) v) n e (k - a) (omega arith))

-- ---- kinds: an accepted sheet has none from 36 to 40
no-options : (k : ℕ) → 35 < k → k < 41 → (row_of k).options ≡ 0
unfolding all lookup
no-options k h l = all-over (λ j. (row_of j).options) 36 5 0 refl k h l

kind-known : (s : List ℕ) → check_of s ≡ 0 → (i : ℕ) → 35 < kind s i → 41 ≤ kind s i
kind-known s e i h = elim (dec_lt (kind s i) 41) [
  | no l ↦ omega arith
  | yes l ↦ elim (dec_lt i (count_of s)) [
    | no past ↦ omega (arith, kind-past s (good s e).long i (omega arith))
    | yes inside ↦ omega (arith, option-in s (good s e) i inside, no-options (kind s i) h l)
  ]
]

-- ---- what a kind needs, by the table
module _ (s : List ℕ) (i : ℕ) where
  cells_at : (k : ℕ) → kind s i ≡ k → cells_with (record_at s i) (rate_of s) k (chain_length s i) ≡ cells_by s i
  cells_at k e = ap (λ k. cells_with (record_at s i) (rate_of s) k (chain_length s i)) (sym e) ∙ sym (cells-with s i)

  registers_at : (k : ℕ) → kind s i ≡ k → registers_with k ≡ registers_by s i
  registers_at k e = ap registers_with (sym e) ∙ sym (registers-with s i)

  pub filter-need : 21 < kind s i → kind s i < 29 → cells_by s i ≡ 11
  unfolding all need_of
  filter-need l h = cells-with s i ∙ all-over (λ k. cells_with (record_at s i) (rate_of s) k (chain_length s i)) 22 7 11 refl (kind s i) l h

-- ---- sizes: n elements now, or as many as before
abbrev Kept : ℕ → ℕ → ℕ → Type 0
Kept n before now = (now ≡ n) ⊎ (now ≡ before)

record Keeps (nc nr : ℕ) (f : Ugen) : Type 0 where
  sizes : (t : Controls) (vs : List Float) (x : Float) (p : Own) → Kept nc (length p.0) (length (f t vs x p).1.0) × Kept nr (length p.1) (length (f t vs x p).1.1)

kept-is : {n a b : ℕ} → Kept n a b → a ≡ n → b ≡ n
kept-is (inl e) h = e
kept-is (inr e) h = e ∙ h

kept-fits : {n a b : ℕ} → Kept n a b → a ≤ n → b ≤ n
kept-fits (inl e) h = omega arith
kept-fits (inr e) h = omega arith

-- a bank keeps what each of its units keeps
units-keep : {S : Type 0} (P : S → Type 0) (f : S → ℕ → S) → ((u : S) (k : ℕ) → P u → P (f u k)) → (u : S) (n : ℕ) → P u → P (units f u n)
unfolding units
units-keep P f h u zero p = p
units-keep P f h u (suc n) p = h (units f u n) n (units-keep P f h u n p)

super-length : (wave : SuperWave) (n : ℕ) (f pitch srf : Float) (cs : List Float) → length (super_of wave n f pitch srf cs).1 ≡ length cs
unfolding super_of voice_at
super-length wave n f pitch srf cs = units-keep (λ (u : Float × List Float). length u.1 ≡ length cs) (voice_at wave (hertz f pitch) srf n) (λ u k e. simp length-set e) _ n refl

modal-length : (mix : Float) (n : ℕ) (x : Float) (cs : List Float) → length (modal_of mix n x cs).1 ≡ length cs
unfolding modal_of mode_step put_mode
modal-length mix n x cs = units-keep (λ (u : Float × List Float). length u.1 ≡ length cs) (mode_step x) (λ u k e. simp length-set e) _ n refl

module _ (feedback mix : Float) (lens : List ℕ) (x : Float) where
  -- what every comb and every allpass keeps, Reverb does
  reverb-keeps : (P : Own → Type 0) → ((r : Wet) (k : ℕ) → P r.1 → P (comb_at feedback lens x r k).1) → ((r : Wet) (k : ℕ) → P r.1 → P (allpass_at lens r k).1)
      → (p : Own) → P p → P (reverb_of feedback mix lens x p).1
  unfolding reverb_of
  reverb-keeps P c a p h = units-keep (λ (r : Wet). P r.1) _ (λ r k. a r (6 + k)) _ 4 (units-keep (λ (r : Wet). P r.1) (comb_at feedback lens x) c _ 6 h)

  reverb-cells : (p : Own) → length (reverb_of feedback mix lens x p).1.0 ≡ length p.0
  unfolding comb_at allpass_at
  reverb-cells p = reverb-keeps (λ o. length o.0 ≡ length p.0) (λ r k e. simp length-set e) (λ r k e. simp length-set e) p refl

  reverb-registers : (p : Own) → length (reverb_of feedback mix lens x p).1.1 ≡ length p.1
  unfolding comb_at allpass_at
  reverb-registers p = reverb-keeps (λ o. length o.1 ≡ length p.1) (λ r k e. simp length-set e) (λ r k e. simp length-set e) p refl

-- what owns nothing, or leaves it as it is, keeps any sizes
still : {nc nr : ℕ} (h : Controls → List Float → Float → Float) → Keeps nc nr (stateless h)
still h = record { sizes = λ t vs x p. (inr refl, inr refl) }

brown-from : (c : ℕ) → Brown ≡ noise_color_of (suc (suc c))
unfolding noise_color_of
brown-from c = rw (ne_eqb (suc (suc c)) 0 (λ e. omega arith), ne_eqb (suc (suc c)) 1 (λ e. omega arith))

module _ (s : List ℕ) (i : ℕ) where
  abbrev Sized : Ugen → Type 0
  Sized f = Keeps (cells_by s i) (registers_by s i) f

  noise-keeps : kind s i ≡ 9 → Sized (noise_unit (noise_color_of (option_of (record_at s i))))
  unfolding need_of noise_color_of white_unit pink_unit brown_unit pink_of
  noise-keeps e = go (option_of (record_at s i)) (cells_at s i 9 e)
    where
      go : (c : ℕ) → noise_cells c ≡ cells_by s i → Sized (noise_unit (noise_color_of c))
      go zero q = record { sizes = λ t vs x p. (inr refl, inl (registers_at s i 9 e)) }
      go (suc zero) q = record { sizes = λ t vs x p. (inl q, inl (registers_at s i 9 e)) }
      go (suc (suc c)) q = subst (λ color. Sized (noise_unit color)) (brown-from c) (record { sizes = λ t vs x p. (inl q, inl (registers_at s i 9 e)) })

  source_keeps : Sized (source_unit (record_at s i) (srf s) (length_of s) (kind s i))
  unfolding need_of source_unit sine_unit square_unit saw_unit triangle_unit fm_unit super_unit dust_unit
  source_keeps =
      let k = kind s i in
      at-kind Sized k 1 (λ e. record { sizes = λ t vs x p. (inl (cells_at s i 1 e), inr refl) })
      (λ _. at-kind Sized k 2 (λ e. record { sizes = λ t vs x p. (inl (cells_at s i 2 e), inr refl) })
      (λ _. at-kind Sized k 3 (λ e. record { sizes = λ t vs x p. (inl (cells_at s i 3 e), inr refl) })
      (λ _. at-kind Sized k 4 (λ e. record { sizes = λ t vs x p. (inl (cells_at s i 4 e), inr refl) })
      (λ _. at-kind Sized k 5 (λ e. record { sizes = λ t vs x p. (inl (cells_at s i 5 e), inr refl) })
      (λ _. at-kind Sized k 6 (λ e. record { sizes = λ t vs x p. (inr (super-length _ _ _ _ _ p.0), inr refl) })
      (λ _. at-kind Sized k 7 (λ e. still _)
      (λ _. at-kind Sized k 8 (λ e. still _)
      (λ _. at-kind Sized k 9 noise-keeps
      (λ _. at-kind Sized k 10 (λ e. record { sizes = λ t vs x p. (inl (cells_at s i 10 e), inl (registers_at s i 10 e)) })
      (λ _. still _))))))))))

  drive-keeps : kind s i ≡ 32 → Sized (drive_unit (option_of (record_at s i)))
  unfolding need_of antialiased_unit
  drive-keeps e = on-cond Sized (ltb (option_of (record_at s i)) 3) (λ _. record { sizes = λ t vs x p. (inl (cells_at s i 32 e), inr refl) }) (λ _. still _)

  processor-keeps : 21 ≤ kind s i → kind s i < 36 → Sized (processor_unit (record_at s i) (rate_of s) (chain_length s i) (kind s i))
  unfolding need_of processor_unit filter_unit delay_unit reverb_unit modal_unit chorus_unit compress_unit
  processor-keeps l g =
      let k = kind s i in
      at-kind Sized k 21 (λ _. still _)
      (λ n21. on-cond Sized (ltb k 29) (λ e. record { sizes = λ t vs x p. (inl (filtered n21 (ltb-true k 29 e)), inr refl) })
      (λ n28. at-kind Sized k 29 (λ e. record { sizes = λ t vs x p. (inr (length-set p.0 _ _), inl (registers_at s i 29 e)) })
      (λ n29. at-kind Sized k 30 (λ e. record { sizes = λ t vs x p. (inr (reverb-cells _ _ _ x p), inr (reverb-registers _ _ _ x p)) })
      (λ n30. at-kind Sized k 31 (λ e. record { sizes = λ t vs x p. (inr (modal-length _ _ x p.0), inr refl) })
      (λ n31. at-kind Sized k 32 drive-keeps
      (λ n32. at-kind Sized k 33 (λ e. still _)
      (λ n33. at-kind Sized k 34 (λ e. record { sizes = λ t vs x p. (inr (length-set p.0 _ _), inl (registers_at s i 34 e)) })
      (λ n34. record { sizes = λ t vs x p. (inl (cells_at s i 35 (last k (ltb-false k 29 n28) g n29 n30 n31 n32 n33 n34)), inr refl) }))))))))
    where
      filtered : kind s i ≢ 21 → kind s i < 29 → 11 ≡ cells_by s i
      filtered n h = sym (filter-need s i (omega arith) h)

      last : (k : ℕ) → 29 ≤ k → k < 36 → k ≢ 29 → k ≢ 30 → k ≢ 31 → k ≢ 32 → k ≢ 33 → k ≢ 34 → k ≡ 35
      last k l g n29 n30 n31 n32 n33 n34 = omega arith

  value_keeps : Sized (value_unit (value_of (record_at s i)) (steps_of s i) (srf s) (length_of s))
  unfolding need_of value_as value_unit rand_unit
  value_keeps =
      let k = kind s i in
      at-kind Held k 42 (λ _. still _)
      (λ _. at-kind Held k 43 (λ _. still _)
      (λ _. at-kind Held k 44 (λ _. still _)
      (λ _. at-kind Held k 45 (λ _. still _)
      (λ _. at-kind Held k 46 (λ e. record { sizes = λ t vs x p. (inl (cells_at s i 46 e), inl (registers_at s i 46 e)) })
      (λ _. still _)))))
    where
      Held : Value → Type 0
      Held v = Sized (value_unit v (steps_of s i) (srf s) (length_of s))

  kind-keeps : check_of s ≡ 0 → Sized (kind_unit s i)
  unfolding kind_unit
  kind-keeps e =
      let k = kind s i in
      on-cond Sized (ltb k 21) (λ _. source_keeps)
      (λ l. on-cond Sized (ltb k 41) (λ h. processor-keeps (ltb-false k 21 l) (below (ltb-true k 41 h)))
      (λ _. value_keeps))
    where
      below : kind s i < 41 → kind s i < 36
      below h = elim (dec_lt (kind s i) 36) [ yes l ↦ l | no l ↦ absurd (omega (arith, kind-known s e i (omega arith))) ]

  if-built : (b : Bool) {f : Ugen} {nc nr : ℕ} → Keeps nc nr f → Keeps (cond b nc 0) (cond b nr 0) (cond b f silent_unit)
  if-built true k = k
  if-built false k = still _

  record-keeps : check_of s ≡ 0 → Keeps (cells s i) (registers s i) (unit_of s i)
  unfolding unit_of
  record-keeps e = if-built (is_built (role s i)) (kind-keeps e)

-- a record's unit leaves it as many cells and registers as it needs
pub unit-keeps : (s : List ℕ) → check_of s ≡ 0 → (i : ℕ) (t : Controls) (vs : List Float) (x : Float) (p : Own) → length p.0 ≡ cells s i → length p.1 ≡ registers s i
    → (length (unit_of s i t vs x p).1.0 ≡ cells s i) × (length (unit_of s i t vs x p).1.1 ≡ registers s i)
unit-keeps s e i t vs x p c r = let k = (record-keeps s i e).sizes t vs x p in (kept-is k.0 c, kept-is k.1 r)

-- with at most as many before, it has at most as many after
pub unit-fits : (s : List ℕ) → check_of s ≡ 0 → (i : ℕ) (t : Controls) (vs : List Float) (x : Float) (p : Own) → length p.0 ≤ cells s i → length p.1 ≤ registers s i
    → (length (unit_of s i t vs x p).1.0 ≤ cells s i) × (length (unit_of s i t vs x p).1.1 ≤ registers s i)
unit-fits s e i t vs x p c r = let k = (record-keeps s i e).sizes t vs x p in (kept-fits k.0 c, kept-fits k.1 r)

-- ---- check 9, by kind
pub record Checked (s : List ℕ) (i : ℕ) (p : Own) : Type 0 where
  pub delay : kind s i ≡ 29 → place_ok p ≡ true
  pub chorus : kind s i ≡ 34 → place_ok p ≡ true
  pub reverb : kind s i ≡ 30 → places_ok (reverb_lines (rate_of s)) p ≡ true
  pub rand : kind s i ≡ 46 → phase_ok p ≡ true

pub checked : (s : List ℕ) (i : ℕ) (p : Own) → own_ok s i p ≡ true → Checked s i p
unfolding own_ok
checked s i p h = record { delay = λ e. rw e at h; chorus = λ e. rw e at h; reverb = λ e. rw e at h; rand = λ e. rw e at h }

pub checked-ok : (s : List ℕ) (i : ℕ) (p : Own) → Checked s i p → own_ok s i p ≡ true
unfolding own_ok
checked-ok s i p c =
    let k = kind s i in
    at-kind (λ b. b ≡ true) k 29 c.delay
    (λ _. at-kind (λ b. b ≡ true) k 34 c.chorus
    (λ _. at-kind (λ b. b ≡ true) k 30 c.reverb
    (λ _. at-kind (λ b. b ≡ true) k 46 c.rand (λ _. refl))))

-- ---- ring places
next-inside : (w n : ℕ) → ltb w n ≡ true → ltb (next_place w n) n ≡ true
next-inside w n e = lt-ltb (next_place w n) n (mod-lt (w + 1) (omega (arith, ltb-true w n e)))

abbrev Inside : List ℕ → List ℕ → Type 0
Inside lens rs = (k : ℕ) → k < 10 → ltb (word rs k) (word lens k) ≡ true

next-set : (lens rs : List ℕ) (j : ℕ) → Inside lens rs → Inside lens (set rs j (next_place (word rs j) (word lens j)))
next-set lens rs j h k l =
    let v = next_place (word rs j) (word lens j) in
    elim (ℕ_discrete k j) [
      | no d ↦ rw (get_or-set_other rs j k v 0 d) (h k l)
      | yes q ↦ elim (dec_lt j (length rs)) [
        | no g ↦ rw (set_out rs j v (omega arith)) (h k l)
        | yes g ↦ rw (q, get_or-set_same rs j v 0 g) (next-inside (word rs j) (word lens j) (h j (omega arith)))
      ]
    ]

delay-ok : (feedback : Float) (t : Controls) (vs : List Float) (x : Float) (p : Own) → place_ok p ≡ true → place_ok (delay_unit feedback t vs x p).1 ≡ true
unfolding delay_unit
delay-ok feedback t vs x p e = rw length-set (next-inside (word p.1 0) (length p.0) e)

chorus-ok : (base swing rate srf mix : Float) (t : Controls) (vs : List Float) (x : Float) (p : Own)
    → place_ok p ≡ true → place_ok (chorus_unit base swing rate srf mix t vs x p).1 ≡ true
unfolding chorus_unit
chorus-ok base swing rate srf mix t vs x p e = rw length-set (next-inside (word p.1 0) (length p.0) e)

reverb-ok : (feedback mix : Float) (sr : ℕ) (t : Controls) (vs : List Float) (x : Float) (p : Own)
    → places_ok (reverb_lines sr) p ≡ true → places_ok (reverb_lines sr) (reverb_unit feedback mix sr t vs x p).1 ≡ true
unfolding reverb_unit comb_at allpass_at
reverb-ok feedback mix sr t vs x p e =
    let lens = reverb_lines sr in
    all_of _ 10
    (reverb-keeps feedback mix lens x (λ o. Inside lens o.1) (λ r k. next-set lens r.1.1 k) (λ r k. next-set lens r.1.1 k) p
    (λ k l. all-at (λ k. ltb (word p.1 k) (word lens k)) 10 e k l))

-- ---- Rand's phase, from a rate of 1 on
one-is : round binary32 false 1 1 ≡ two_to 0
unfolding round units_of
one-is = refl

rate-some : (n : ℕ) → 1 ≤ n → le one (of_int binary32 (pos n)) ≡ true
unfolding of_int
rate-some n h =
    rw (one-32, ← one-is)
    (is_true (le (round binary32 false 1 1) (round binary32 false n 1)) (round_mono binary32 1 1 n 1 (omega arith) (omega arith) (omega arith)))

rand-ok : (rate srf from to : Float) → le one srf ≡ true → (t : Controls) (vs : List Float) (x : Float) (p : Own)
    → phase_ok p ≡ true → phase_ok (rand_unit (rand_increment rate srf) from to t vs x p).1 ≡ true
unfolding rand_unit
rand-ok rate srf from to h t vs x p e =
    let b = increment-bound rate srf h in
    let q = both (le zero_f (at p.0 2)) (lt (at p.0 2) one) e in
    let k = phase-kept (rand_increment rate srf) from to (walk_of p) b.0 b.1 q.0 q.1 in
    rw (k.1, k.2)

module _ (s : List ℕ) (i : ℕ) where
  abbrev r : List ℕ
  r = record_at s i

  kind-delay : kind s i ≡ 29 → kind_unit s i ≡ delay_unit (number_of r 1)
  unfolding kind_unit processor_unit
  kind-delay e = rw e

  kind-reverb : kind s i ≡ 30 → kind_unit s i ≡ reverb_unit (feedback_of (number_of r 0)) (clamp_of (number_of r 1) zero_f one) (rate_of s)
  unfolding kind_unit processor_unit
  kind-reverb e = rw e

  kind-chorus : kind s i ≡ 34 → kind_unit s i ≡ chorus_unit (chorus_base (rate_of s)) (chorus_swing (number_of r 1) (rate_of s)) (number_of r 0) (srf s) (clamp_of (number_of r 2) zero_f one)
  unfolding kind_unit processor_unit
  kind-chorus e = rw e

  kind-rand : kind s i ≡ 46 → kind_unit s i ≡ rand_unit (rand_increment (number_of r 2) (srf s)) (number_of r 0) (number_of r 1)
  unfolding kind_unit value_unit value_as
  kind-rand e = rw e

  kind_ok : check_of s ≡ 0 → (t : Controls) (vs : List Float) (x : Float) (p : Own) → Checked s i p → Checked s i (kind_unit s i t vs x p).1
  kind_ok c t vs x p h = record {
    delay = λ e. ap (λ (f : Ugen). place_ok (f t vs x p).1) (kind-delay e) ∙ delay-ok _ t vs x p (h.delay e);
    chorus = λ e. ap (λ (f : Ugen). place_ok (f t vs x p).1) (kind-chorus e) ∙ chorus-ok _ _ _ _ _ t vs x p (h.chorus e);
    reverb = λ e. ap (λ (f : Ugen). places_ok (reverb_lines (rate_of s)) (f t vs x p).1) (kind-reverb e) ∙ reverb-ok _ _ _ t vs x p (h.reverb e);
    rand = λ e. ap (λ (f : Ugen). phase_ok (f t vs x p).1) (kind-rand e) ∙ rand-ok _ _ _ _ (rate-some (rate_of s) (omega (arith, (good s c).slowest))) t vs x p (h.rand e);
  }

-- what passes check 9 passes it after a sample too
pub unit_ok : (s : List ℕ) → check_of s ≡ 0 → (i : ℕ) (t : Controls) (vs : List Float) (x : Float) (p : Own) → own_ok s i p ≡ true → own_ok s i (unit_of s i t vs x p).1 ≡ true
unfolding unit_of
unit_ok s c i t vs x p h =
    on-cond (λ (f : Ugen). own_ok s i (f t vs x p).1 ≡ true) (is_built (role s i)) (λ _. checked-ok s i _ (kind_ok s i c t vs x p (checked s i p h))) (λ _. h)

-- ---- the start
mode-cells : (s js : List ℕ) → length (modal_start s js) ≡ 5 * length js
unfolding modal_start
mode-cells s [] = refl
mode-cells s (j ∷ js) = omega (arith, mode-cells s js)

pub start-cells : (s : List ℕ) (i : ℕ) → role s i ≡ Built → length (start_cells s i) ≡ cells s i
unfolding start_cells need_of
start-cells s i b =
    let k = kind s i in
    let q = cells-built s i b in
    at-kind Long k 6 (λ e. length-append (tab _ _) (tab _ _) ∙ voices (length-tab _ _) (length-tab _ _) ∙ cells_at s i 6 e ∙ sym q)
    (λ _. on-cond Long (ltb 21 k && ltb k 29) (λ e. let h = both (ltb 21 k) (ltb k 29) e in sym (filter-need s i (ltb-true 21 k h.0) (ltb-true k 29 h.1)) ∙ sym q)
    (λ _. at-kind Long k 31 (λ e. mode-cells s _ ∙ cells_at s i 31 e ∙ sym q)
    (λ _. at-kind Long k 32 (λ e. cells_at s i 32 e ∙ sym q)
    (λ _. at-kind Long k 35 (λ e. cells_at s i 35 e ∙ sym q)
    (λ _. at-kind Long k 46 (λ e. cells_at s i 46 e ∙ sym q)
    (λ _. length-replicate (cells s i) zero_f))))))
  where
    Long : List Float → Type 0
    Long cs = length cs ≡ cells s i

    voices : {a b n : ℕ} → a ≡ n → b ≡ n → a + b ≡ 2 * n
    voices e f = omega arith

pub start-registers : (s : List ℕ) (i : ℕ) → role s i ≡ Built → length (start_registers s i) ≡ registers s i
unfolding start_registers need_of
start-registers s i b =
    let k = kind s i in
    let q = registers-built s i b in
    at-kind Long k 9 (λ e. registers_at s i 9 e ∙ sym q)
    (λ _. at-kind Long k 10 (λ e. registers_at s i 10 e ∙ sym q)
    (λ _. at-kind Long k 46 (λ e. registers_at s i 46 e ∙ sym q)
    (λ _. length-replicate (registers s i) 0)))
  where
    Long : List ℕ → Type 0
    Long rs = length rs ≡ registers s i

-- lines have a sample at least
delay-some : (secs : Float) (sr : ℕ) → 0 < delay_line secs sr
unfolding delay_line
delay-some secs sr = le-max_right _ 1

chorus-some : (depth : Float) (sr : ℕ) → 0 < chorus_line depth sr
unfolding chorus_line
chorus-some depth sr = omega arith

tuned-some : (t sr : ℕ) → 0 < tuned_line t sr
unfolding tuned_line
tuned-some t sr = le-max_right _ 1

tuned-test : (t sr : ℕ) → ltb 0 (tuned_line t sr) ≡ true
tuned-test t sr = lt-ltb 0 (tuned_line t sr) (tuned-some t sr)

start-phase : le zero_f zero_f && lt zero_f one ≡ true
unfolding of_bits le lt eq
start-phase = refl

module _ (s : List ℕ) (i : ℕ) (b : role s i ≡ Built) where
  abbrev begun : Own
  begun = (start_cells s i, start_registers s i)

  -- as many places as the kind needs registers, all at 0
  places : (n : ℕ) → start_registers s i ≡ replicate (registers s i) 0 → n ≡ registers_by s i → start_registers s i ≡ replicate n 0
  places n e q = e ∙ ap (λ n. replicate n 0) (registers-built s i b ∙ sym q)

  line-start : start_registers s i ≡ replicate 1 0 → 0 < cells_by s i → place_ok begun ≡ true
  line-start z h = rw z (lt-ltb 0 (length (start_cells s i)) (omega (arith, start-cells s i b, cells-built s i b)))

  start-checked : Checked s i begun
  unfolding start_cells start_registers need_of all
  start-checked = record {
    delay = λ e. line-start (places 1 (rw e) (registers_at s i 29 e)) (rw (← cells_at s i 29 e) (delay-some (number_of (record_at s i) 0) (rate_of s)));
    chorus = λ e. line-start (places 1 (rw e) (registers_at s i 34 e)) (rw (← cells_at s i 34 e) (chorus-some (number_of (record_at s i) 1) (rate_of s)));
    reverb = λ e. ap (λ (rs : List ℕ). places_ok (reverb_lines (rate_of s)) (start_cells s i, rs)) (places 10 (rw e) (registers_at s i 30 e)) ∙ simp tuned-test;
    rand = λ e. rw e start-phase;
  }

  pub start-ok : own_ok s i (start_cells s i, start_registers s i) ≡ true
  start-ok = checked-ok s i begun start-checked
