-- What the start values are by kind, how many there are, and the laws of the loop that writes Modal's.
use Rattle.std.specs.Prelude.{◌≡◌, refl, Bool, true, false, List, [], ◌∷◌, ◌++◌, ◌&&◌, ◌||◌, ◌≢◌, ℕ, ◌+◌, ◌-◌, ◌≤◌, ◌<◌, eqb, ltb, length, get_or, take, Float}
use Rattle.std.proofs.Common.{sym, ◌∙◌, append_assoc, append-nil, length-append, take_at, take_all, length-take-le}
use Rattle.std.proofs.Math.Path.{ap}
use native.Mathlib.Omega.{arith}
use borrow.Author.Tests.{eqb-true, ne_eqb, lt-ltb}
use Rattle.std.proofs.Math.ListN.{replicate}
use borrow.Rule.Slice.PartMut.{mid_of, put_mid, mid_len, same_len_mid}
use Rattle.float.specs.Single.{zero as zero_f}
use Rattle.sheet.specs.Record.{rate_of, number_of, record_at, kind, next}
use Rattle.sheet.specs.Numbers.{kind_number, src_number, biquad_number, proc_number, val_number}
use Rattle.sheet.specs.declared.kinds.Src.{Src}
use Rattle.sheet.specs.declared.kinds.Biquad.{Biquad}
use Rattle.sheet.specs.declared.kinds.Biquad.TheVariants as B
use Rattle.sheet.specs.declared.kinds.Proc.{Proc}
use Rattle.sheet.specs.declared.kinds.Val.{Val}
use Rattle.sheet.specs.declared.kinds.Kind.{Kind}
use Rattle.sheet.specs.declared.kinds.Kind.TheVariants as K
use Rattle.sheet.specs.Laws.{never}
use Rattle.sheet.specs.Tree.{records, spine}
use Rattle.layout.specs.Built.{role}
use Rattle.layout.specs.declared.Role.TheVariants.{Built}
use Rattle.layout.specs.Good.{Good, good}
use Rattle.layout.specs.Owners.{records-none, records-some}
use Rattle.layout.specs.Needs.{need_of, cells_by, registers_by}
use Rattle.layout.specs.Counts.{cells-built, registers-built}
use Rattle.layout.specs.Tables.{Table, Passed}
use Rattle.dsp.specs.Coefficients.{modal_of}
use Rattle.unit.specs.Start.{filter_start, at_rest, mode_start, modal_start, start_cells, start_registers, path}
use Rattle.rng.specs.Random.{seed_of}
use Rattle.std.proofs.Math.Decide.{ℕ_discrete}

-- ---- what lies from a record on is the record at least
module _ (s : List ℕ) (i : ℕ) where
  -- ---- what they are
  pub filter-start : 21 < kind s i → kind s i < 29 → start_cells s i ≡ filter_start
  unfolding start_cells
  filter-start l h = let d : kind s i ≢ 6 = omega arith in rw (ne_eqb (kind s i) 6 d, lt-ltb 21 (kind s i) l, lt-ltb (kind s i) 29 h)

-- ---- the number of a kind, by its case
module _ {k : Kind} {n : ℕ} (e : kind_number k ≡ n) where
  pub src-at : {x : Src} → k ≡ K.Src x → {y : Src} → x ≡ y → n ≡ src_number y
  unfolding kind_number
  src-at p q = sym e ∙ ap kind_number p ∙ ap src_number q

  pub proc-at : {x : Proc} → k ≡ K.Proc x → {y : Proc} → x ≡ y → n ≡ proc_number y
  unfolding kind_number
  proc-at p q = sym e ∙ ap kind_number p ∙ ap proc_number q

  pub val-at : {x : Val} → k ≡ K.Val x → {y : Val} → x ≡ y → n ≡ val_number y
  unfolding kind_number
  val-at p q = sym e ∙ ap kind_number p ∙ ap val_number q

  pub filter-at : {x : Biquad} → k ≡ K.Biquad x → (21 < n) × (n < 29)
  unfolding kind_number biquad_number
  filter-at {x} p = let r = filter-in x in let q : n ≡ biquad_number x = sym e ∙ ap kind_number p in (omega (arith, r.0), omega (arith, r.1))
    where
      filter-in : (x : Biquad) → (21 < biquad_number x) × (biquad_number x < 29)
      filter-in B.Lowpass = (omega arith, omega arith)
      filter-in B.Highpass = (omega arith, omega arith)
      filter-in B.Bandpass = (omega arith, omega arith)
      filter-in B.Notch = (omega arith, omega arith)
      filter-in B.Peak = (omega arith, omega arith)
      filter-in B.Lowshelf = (omega arith, omega arith)
      filter-in B.Highshelf = (omega arith, omega arith)

-- ---- the kinds that start with other numbers than 0
abbrev pub starting : ℕ → Bool
starting k = eqb k 6 || (ltb 21 k && ltb k 29) || eqb k 31 || eqb k 32 || eqb k 35 || eqb k 46

abbrev pub seeding : ℕ → Bool
seeding k = eqb k 9 || eqb k 10 || eqb k 46

module _ (s : List ℕ) (i : ℕ) {k : ℕ} (b : role s i ≡ Built) (e : k ≡ kind s i) where
  pub zero-start : starting k ≡ false → start_cells s i ≡ replicate (cells_by s i) zero_f
  unfolding start_cells
  zero-start h =
      let n = kind s i in
      let p = six (eqb n 6) (ltb 21 n && ltb n 29) (eqb n 31) (eqb n 32) (eqb n 35) (eqb n 46) (ap starting (sym e) ∙ h) in
      rw (p.0, p.1, p.2, p.3, p.4, p.5) (ap (λ n. replicate n zero_f) (cells-built s i b))
    where
      six : (a b c d e f : Bool) → a || b || c || d || e || f ≡ false → (a ≡ false) × (b ≡ false) × (c ≡ false) × (d ≡ false) × (e ≡ false) × (f ≡ false)
      six false false false false false false q = (refl, refl, refl, refl, refl, refl)
      six true b c d e f q = never q
      six false true c d e f q = never q
      six false false true d e f q = never q
      six false false false true e f q = never q
      six false false false false true f q = never q
      six false false false false false true q = never q

  -- Noise and Dust
  pub path-registers : eqb k 9 || eqb k 10 ≡ true → (start_registers s i ≡ seed_of (path s i) ∷ []) × (registers_by s i ≡ 1)
  unfolding start_registers registers_by need_of
  path-registers h = elim (ℕ_discrete (kind s i) 9) [
    | yes z ↦ (rw z, rw z)
    | no d ↦ let z = eqb-true (kind s i) 10 (rw (ne_eqb (kind s i) 9 d) at (ap (λ k. eqb k 9 || eqb k 10) (sym e) ∙ h)) in (rw z, rw z)
  ]

  pub zero-registers : seeding k ≡ false → start_registers s i ≡ replicate (registers_by s i) 0
  unfolding start_registers
  zero-registers h =
      let n = kind s i in
      let p = three (eqb n 9) (eqb n 10) (eqb n 46) (ap seeding (sym e) ∙ h) in
      rw (p.0, p.1, p.2) (ap (λ n. replicate n 0) (registers-built s i b))
    where
      three : (a b c : Bool) → a || b || c ≡ false → (a ≡ false) × (b ≡ false) × (c ≡ false)
      three false false false q = (refl, refl, refl)
      three true b c q = never q
      three false true c q = never q
      three false false true q = never q

-- ---- Modal: along the chain, what is written and what the rest of the chain starts with are the whole
abbrev pub chain_start : List ℕ → ℕ → List Float
chain_start s j = modal_start s (spine (records s j))

-- what a mode is lent, and the whole when it is back
pub mode-length : {A : Type 0} (own : List A) (at : ℕ) → at + 5 ≤ length own → length (mid_of at (at + 5 - at) own) ≡ 5
mode-length own at h = mid_len at (at + 5) own h ∙ omega arith

pub mode-back : {A : Type 0} (own xs : List A) (at : ℕ) → at + 5 ≤ length own → length xs ≡ 5 → length (put_mid at (at + 5 - at) own xs) ≡ length own
mode-back own xs at h e = same_len_mid at (at + 5 - at) own xs (e ∙ sym (mode-length own at h))

pub mode-is : (s : List ℕ) (j rate : ℕ) (r : List ℕ) → r ≡ record_at s j → rate ≡ rate_of s → at_rest (modal_of (number_of r 0) (number_of r 1) (number_of r 2) rate) ≡ mode_start s j
mode-is s j rate r e q = ap (λ r. at_rest (modal_of (number_of r 0) (number_of r 1) (number_of r 2) rate)) e ∙ ap (λ n. let x = number_of (record_at s j) in at_rest (modal_of (x 0) (x 1) (x 2) n)) q

module _ (s : List ℕ) (n : ℕ) (a : Passed s n) where
  accepted : Good s
  accepted = good s a.passed

  chain-none : (j : ℕ) → j ≡ 0 → chain_start s j ≡ []
  unfolding modal_start spine
  chain-none j e = ap (chain_start s) e ∙ rw (records-none s accepted)

  chain-some : (j : ℕ) → j ≢ 0 → j < n → chain_start s j ≡ mode_start s j ++ chain_start s (next s j)
  unfolding modal_start spine
  chain-some j d h = ap (λ t. modal_start s (spine t)) (records-some s accepted j d (omega (arith, a.count)))

  pub modal-turn : (nexts : List ℕ) → Table (next s) n nexts → (j : ℕ) → j ≢ 0 → j < n → (own xs rest : List Float) (at : ℕ) → at + 5 ≤ length own → xs ≡ mode_start s j
      → (total : List Float) → take at own ++ chain_start s j ≡ total → take (at + 5) (take at own ++ (xs ++ rest)) ++ chain_start s (get_or nexts j 0) ≡ total
  modal-turn nexts w j d h own xs rest at l e total q =
      ap (λ l. l ++ chain_start s (get_or nexts j 0)) (ap (take (at + 5)) (sym (append_assoc (take at own) xs rest)) ∙ take_at (take at own ++ xs) rest (at + 5) long)
      ∙ append_assoc (take at own) xs (chain_start s (get_or nexts j 0))
      ∙ ap (λ m. take at own ++ (xs ++ chain_start s m)) (w.at j h)
      ∙ ap (λ l. take at own ++ (l ++ chain_start s (next s j))) e
      ∙ ap (λ l. take at own ++ l) (sym (chain-some j d h))
      ∙ q
    where
      long : length (take at own ++ xs) ≡ at + 5
      long = simp length-append (omega (arith, length-take-le at own (omega arith), ap length e))

  pub modal-end : (j : ℕ) → j ≡ 0 → (own : List Float) (at : ℕ) → length own ≤ at → (total : List Float) → take at own ++ chain_start s j ≡ total → own ≡ total
  modal-end j z own at l total q = sym (take_all at own l) ∙ sym (append-nil (take at own)) ∙ ap (λ l. take at own ++ l) (sym (chain-none j z)) ∙ q
