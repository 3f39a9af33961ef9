-- What a processor is lent, by its kind alone, and that an accepted sheet's records are lent it.
use Rattle.std.specs.Prelude.{◌≡◌, refl, Bool, true, false, cond, List, ℕ, ◌+◌, ◌*◌, ◌/◌, ◌^◌, ◌≤◌, ◌<◌, eqb, ltb, length, Float}
use Rattle.std.proofs.Common.{sym, ◌∙◌, arith}
use Rattle.std.proofs.Math.Path.{ap}
use Rattle.std.proofs.Math.Nat.{mul-div_right}
use borrow.Author.Tests.{ltb-true}
use Rattle.sheet.specs.Record.{rate_of, record_at, kind}
use Rattle.sheet.specs.Numbers.{biquad_number, proc_number}
use Rattle.sheet.specs.declared.kinds.Biquad.{Biquad}
use Rattle.sheet.specs.declared.kinds.Biquad.TheVariants as B
use Rattle.sheet.specs.declared.kinds.Proc.{Proc}
use Rattle.sheet.specs.declared.kinds.Proc.TheVariants as P
use Rattle.sheet.specs.Checks.{sum}
use Rattle.sheet.specs.Laws.{all-at}
use Rattle.layout.specs.Needs.{need_of, chain_length}
use Rattle.layout.specs.Counts.{cells_with, registers_with}
use Rattle.lines.specs.Lines.{reverb_lines}
use Rattle.reverb_block.specs.Reverb.{line_from, Placed}
use Rattle.block.specs.Iterate.{word}
use Rattle.sheet.specs.Kinds.{lookup}
use Rattle.unit.specs.Own.{Own}
use Rattle.unit.specs.Buffers.{values_of}
use Rattle.unit.specs.Processors.{processor_unit, filter_unit, filter_kind_of, filter_q}
use Rattle.unit.specs.Unit.{kind_unit}
use Rattle.unit.specs.State.{place_ok, places_ok, phase_ok, own_ok}
use Rattle.unit.specs.Block.{Lent}
use Rattle.unit.specs.Lent.{lent-cells, lent-registers}

-- Delay and Chorus have a line and a place in it, Reverb ten, with a store for each comb; Drive and Compress have four cells
unfoldable pub Fits : ℕ → Proc → List Float → List ℕ → Type 0
Fits sr P.Gain cs rs = Unit
Fits sr P.Delay cs rs = (length rs ≡ 1) × (word rs 0 < length cs)
Fits sr P.Reverb cs rs = (length cs ≡ line_from (reverb_lines sr) 10 + 6) × Placed (reverb_lines sr) rs
Fits sr P.Modal cs rs = Unit
Fits sr P.Drive cs rs = length cs ≡ 4
Fits sr P.Tremolo cs rs = Unit
Fits sr P.Chorus cs rs = (length rs ≡ 1) × (word rs 0 < length cs)
Fits sr P.Compress cs rs = length cs ≡ 4

-- how long the value's buffer and the other are beside the block, and where the block may stand: Gain and Drive read their value and ask nothing of the position
unfoldable pub Room : Proc → (n nv nb position : ℕ) → Type 0
Room P.Gain n nv nb t = n ≤ nv
Room P.Delay n nv nb t = (n ≤ nb) × (t + n < 2 ^ 64)
Room P.Reverb n nv nb t = (n ≤ nb) × (t + n < 2 ^ 64)
Room P.Modal n nv nb t = (n ≤ nb) × (t + n < 2 ^ 64)
Room P.Drive n nv nb t = (n ≤ nv) × (n ≤ nb)
Room P.Tremolo n nv nb t = (n ≤ nb) × (t + n < 2 ^ 64)
Room P.Chorus n nv nb t = (n ≤ nb) × (t + n < 2 ^ 64)
Room P.Compress n nv nb t = (n ≤ nb) × (t + n < 2 ^ 64)

pub room : (p : Proc) (n nv nb t : ℕ) → (1 ≤ values_of (proc_number p) → n ≤ nv) → n ≤ nb → (values_of (proc_number p) ≡ 0 → t + n < 2 ^ 64) → Room p n nv nb t
unfolding Room proc_number lookup
room P.Gain n nv nb t v b h = v (omega arith)
room P.Delay n nv nb t v b h = (b, h refl)
room P.Reverb n nv nb t v b h = (b, h refl)
room P.Modal n nv nb t v b h = (b, h refl)
room P.Drive n nv nb t v b h = (v (omega arith), b)
room P.Tremolo n nv nb t v b h = (b, h refl)
room P.Chorus n nv nb t v b h = (b, h refl)
room P.Compress n nv nb t v b h = (b, h refl)

-- ---- the unit of a processor's record, of which r is the part of the sheet; how many modes there are counts for Modal only
modes-only : (r : List ℕ) (sr m n : ℕ) (p : Proc) → (p ≡ P.Modal → m ≡ n) → processor_unit r sr m (proc_number p) ≡ processor_unit r sr n (proc_number p)
unfolding processor_unit proc_number
modes-only r sr m n P.Modal e = rw (e refl)
modes-only r sr m n P.Gain e = refl
modes-only r sr m n P.Delay e = refl
modes-only r sr m n P.Reverb e = refl
modes-only r sr m n P.Drive e = refl
modes-only r sr m n P.Tremolo e = refl
modes-only r sr m n P.Chorus e = refl
modes-only r sr m n P.Compress e = refl

proc-range : (p : Proc) → (ltb (proc_number p) 21 ≡ false) × (ltb (proc_number p) 41 ≡ true)
unfolding proc_number
proc-range P.Gain = (refl, refl)
proc-range P.Delay = (refl, refl)
proc-range P.Reverb = (refl, refl)
proc-range P.Modal = (refl, refl)
proc-range P.Drive = (refl, refl)
proc-range P.Tremolo = (refl, refl)
proc-range P.Chorus = (refl, refl)
proc-range P.Compress = (refl, refl)

module _ {s : List ℕ} {i nc nr : ℕ} (p : Proc) (a : Lent s i (proc_number p) nc nr) where
  modes-of : p ≡ P.Modal → nc / 5 ≡ chain_length s i
  unfolding need_of proc_number
  modes-of e =
      let n : nc ≡ 5 * chain_length s i = lent-cells a 31 (ap proc_number e) in
      ap (λ n. n / 5) n ∙ mul-div_right (chain_length s i) (omega arith)

  pub unit-of : {r : List ℕ} {sr : ℕ} → r ≡ record_at s i → sr ≡ rate_of s → kind_unit s i ≡ processor_unit r sr (nc / 5) (proc_number p)
  unfolding kind_unit
  unit-of er es = rw (er, es, ← a.kind_is, (proc-range p).0, (proc-range p).1) (sym (modes-only (record_at s i) (rate_of s) (nc / 5) (chain_length s i) p modes-of))

-- ---- lengths and places
-- check 9 by the kind
abbrev ok_by : ℕ → List ℕ → Own → Bool
ok_by k lens o = cond (eqb k 29) (place_ok o) (cond (eqb k 34) (place_ok o) (cond (eqb k 30) (places_ok lens o) (cond (eqb k 46) (phase_ok o) true)))

ok-is : (s : List ℕ) (i k : ℕ) (o : Own) → k ≡ kind s i → own_ok s i o ≡ true → ok_by k (reverb_lines (rate_of s)) o ≡ true
unfolding own_ok
ok-is s i k o e h = rw e h

pub fits : {s : List ℕ} {i : ℕ} (p : Proc) (cs : List Float) (rs : List ℕ) → Lent s i (proc_number p) (length cs) (length rs) → (values_of (proc_number p) ≡ 0 → own_ok s i (cs, rs) ≡ true) → Fits (rate_of s) p cs rs
unfolding need_of sum line_from proc_number lookup Fits
fits {s} {i} p cs rs a h = go p (lent-cells a (proc_number p) refl) (lent-registers a (proc_number p) refl) (λ z. ok-is s i (proc_number p) (cs, rs) a.kind_is (h z))
  where
    go : (p : Proc) → length cs ≡ cells_with (record_at s i) (rate_of s) (proc_number p) (chain_length s i) → length rs ≡ registers_with (proc_number p)
        → (values_of (proc_number p) ≡ 0 → ok_by (proc_number p) (reverb_lines (rate_of s)) (cs, rs) ≡ true) → Fits (rate_of s) p cs rs
    go P.Gain c r o = tt
    go P.Delay c r o = (r, ltb-true _ _ (o refl))
    go P.Reverb c r o = (
      omega (arith, c),
      record { lines = refl; places = r; inside = λ j l. ltb-true _ _ (all-at (λ j. ltb (word rs j) (word (reverb_lines (rate_of s)) j)) 10 (o refl) j l) },
    )
    go P.Modal c r o = tt
    go P.Drive c r o = c
    go P.Tremolo c r o = tt
    go P.Chorus c r o = (r, ltb-true _ _ (o refl))
    go P.Compress c r o = c

-- ---- a filter's record: where its number lies among the others, as the definitions by number ask, and what it needs
filter-range : (b : Biquad) → (ltb (biquad_number b) 21 ≡ false) × (ltb (biquad_number b) 41 ≡ true) × (eqb (biquad_number b) 21 ≡ false) × (ltb (biquad_number b) 29 ≡ true)
unfolding biquad_number
filter-range B.Lowpass = (refl, refl, refl, refl)
filter-range B.Highpass = (refl, refl, refl, refl)
filter-range B.Bandpass = (refl, refl, refl, refl)
filter-range B.Notch = (refl, refl, refl, refl)
filter-range B.Peak = (refl, refl, refl, refl)
filter-range B.Lowshelf = (refl, refl, refl, refl)
filter-range B.Highshelf = (refl, refl, refl, refl)

filter-needs : (b : Biquad) (r : List ℕ) (rate m : ℕ) → (cells_with r rate (biquad_number b) m ≡ 11) × (registers_with (biquad_number b) ≡ 0)
unfolding need_of biquad_number
filter-needs B.Lowpass r rate m = (refl, refl)
filter-needs B.Highpass r rate m = (refl, refl)
filter-needs B.Bandpass r rate m = (refl, refl)
filter-needs B.Notch r rate m = (refl, refl)
filter-needs B.Peak r rate m = (refl, refl)
filter-needs B.Lowshelf r rate m = (refl, refl)
filter-needs B.Highshelf r rate m = (refl, refl)

module _ {s : List ℕ} {i nc nr : ℕ} (b : Biquad) (a : Lent s i (biquad_number b) nc nr) where
  pub filter-cells : nc ≡ 11
  filter-cells = lent-cells a (biquad_number b) refl ∙ (filter-needs b (record_at s i) (rate_of s) (chain_length s i)).0

  pub filter-registers : nr ≡ 0
  filter-registers = lent-registers a (biquad_number b) refl ∙ (filter-needs b (record_at s i) (rate_of s) (chain_length s i)).1

  pub filter-of : {r : List ℕ} {sr : ℕ} → r ≡ record_at s i → sr ≡ rate_of s → kind_unit s i ≡ filter_unit (filter_kind_of (biquad_number b) r) (filter_q (biquad_number b) r) sr
  unfolding kind_unit processor_unit
  filter-of er es = let f = filter-range b in rw (er, es, ← a.kind_is, f.0, f.1, f.2, f.3)
