-- The needs by numbers alone, as the code works them out: a row for each kind that needs some.
use Rattle.std.specs.Prelude.{◌≡◌, refl, Bool, true, false, cond, List, [], ◌∷◌, ◌≢◌, ℕ, zero, suc, ◌+◌, ◌*◌, ◌≤◌, ◌<◌, get_or, set}
use Rattle.std.proofs.Common.{sym, ◌∙◌, arith, length-set}
use Rattle.std.proofs.Math.Path.{ap}
use Rattle.std.proofs.Math.Decide.{ℕ_discrete}
use Rattle.std.proofs.Math.ListN.{length}
use Rattle.tree.specs.Flat.{Layout, Rows}
use Rattle.sheet.specs.Record.{count_of, rate_of, option_of, number_of, record_at, kind, next}
use Rattle.sheet.specs.Tree.{records, spine}
use Rattle.sheet.specs.Checks.{sum}
use Rattle.sheet.specs.Laws.{sum-suc}
use Rattle.lines.specs.Lines.{delay_line, chorus_line}
use Rattle.layout.specs.Built.{role, is_built}
use Rattle.layout.specs.declared.Role.{Role}
use Rattle.layout.specs.declared.Role.TheVariants.{Built}
use Rattle.layout.specs.Needs.{Need, needs, need_of, voices_of, noise_cells, reverb_cells, chain_length, cells_by, registers_by, scratch_by, cells, registers, scratch, cells_from, registers_from, scratch_from}
use Rattle.layout.specs.Good.{Good, good}
use Rattle.layout.specs.Tables.{Table, Passed, next-entry, Below, front-more}
use Rattle.layout.specs.Owners.{records-none, records-some, along}

-- ---- cells: the rows, with what Super, Noise, Delay, Reverb, Modal and Chorus need
abbrev pub cell_rows : ℕ → ℕ → ℕ → ℕ → ℕ → ℕ → List Need
cell_rows v c d b m h =
    needs 1 1 ∷ needs 2 1 ∷ needs 3 1 ∷ needs 4 2 ∷ needs 5 2 ∷ needs 6 v ∷ needs 9 c ∷ needs 10 1
    ∷ needs 22 11 ∷ needs 23 11 ∷ needs 24 11 ∷ needs 25 11 ∷ needs 26 11 ∷ needs 27 11 ∷ needs 28 11
    ∷ needs 29 d ∷ needs 30 b ∷ needs 31 m ∷ needs 32 4 ∷ needs 34 h ∷ needs 35 4 ∷ needs 46 3 ∷ []

abbrev pub cells_with : List ℕ → ℕ → ℕ → ℕ → ℕ
cells_with r rate k m =
    need_of k (cell_rows (2 * voices_of r) (noise_cells (option_of r)) (delay_line (number_of r 0) rate) (reverb_cells rate) (5 * m) (chorus_line (number_of r 1) rate))

pub cells-with : (s : List ℕ) (i : ℕ) → cells_by s i ≡ cells_with (record_at s i) (rate_of s) (kind s i) (chain_length s i)
unfolding cells_by
cells-with s i = refl

abbrev pub register_rows : List Need
register_rows = needs 9 1 ∷ needs 10 1 ∷ needs 29 1 ∷ needs 30 10 ∷ needs 34 1 ∷ needs 46 1 ∷ []

abbrev pub scratch_rows : List Need
scratch_rows = needs 11 256 ∷ needs 12 256 ∷ []

abbrev pub registers_with : ℕ → ℕ
registers_with k = need_of k register_rows

abbrev pub scratch_with : ℕ → ℕ
scratch_with k = need_of k scratch_rows

pub registers-with : (s : List ℕ) (i : ℕ) → registers_by s i ≡ registers_with (kind s i)
unfolding registers_by
registers-with s i = refl

pub scratch-with : (s : List ℕ) (i : ℕ) → scratch_by s i ≡ scratch_with (kind s i)
unfolding scratch_by
scratch-with s i = refl

-- a built record's needs are its kind's
pub cells-built : (s : List ℕ) (i : ℕ) → role s i ≡ Built → cells s i ≡ cells_by s i
cells-built s i r = rw r

pub registers-built : (s : List ℕ) (i : ℕ) → role s i ≡ Built → registers s i ≡ registers_by s i
registers-built s i r = rw r

pub cells-some : (s : List ℕ) (i k : ℕ) → k ≡ kind s i → role s i ≡ Built → cells_with (record_at s i) (rate_of s) k (chain_length s i) ≡ cells s i
cells-some s i k e b = rw (e, b, cells-with s i)

pub registers-some : (s : List ℕ) (i k : ℕ) → k ≡ kind s i → role s i ≡ Built → registers_with k ≡ registers s i
registers-some s i k e b = rw (e, b, registers-with s i)

pub scratch-some : (s : List ℕ) (i k : ℕ) → k ≡ kind s i → role s i ≡ Built → scratch_with k ≡ scratch s i
scratch-some s i k e b = rw (e, b, scratch-with s i)

-- ---- what needs nothing: a kind, and a record by its kind and its role
abbrev pub Bare : ℕ → Type 0
Bare k = ((r : List ℕ) (rate m : ℕ) → cells_with r rate k m ≡ 0) × (registers_with k ≡ 0) × (scratch_with k ≡ 0)

abbrev pub Unowning : ℕ → Role → Type 0
Unowning k r = (s : List ℕ) (i : ℕ) → k ≡ kind s i → r ≡ role s i → (cells s i ≡ 0) × (registers s i ≡ 0) × (scratch s i ≡ 0)

nothing : (b : Bool) (n : ℕ) → n ≡ 0 → cond b n 0 ≡ 0
nothing true n e = e
nothing false n e = refl

pub none-unbuilt : (k : ℕ) (r : Role) → is_built r ≡ false → Unowning k r
none-unbuilt k r h s i ek er = let e : is_built (role s i) ≡ false = ap is_built (sym er) ∙ h in (rw e, rw e, rw e)

pub none_bare : (k : ℕ) (r : Role) → Bare k → Unowning k r
none_bare k r w s i ek er =
    let b = is_built (role s i) in
    let c = cells-with s i ∙ ap (λ k. cells_with (record_at s i) (rate_of s) k (chain_length s i)) (sym ek) ∙ w.0 (record_at s i) (rate_of s) (chain_length s i) in
    (nothing b _ c, nothing b _ (registers-with s i ∙ ap registers_with (sym ek) ∙ w.1), nothing b _ (scratch-with s i ∙ ap scratch_with (sym ek) ∙ w.2))

-- ---- a chain's length
module _ (s : List ℕ) (g : Good s) where
  pub long-none : length (spine (records s 0)) ≡ 0
  unfolding spine
  long-none = rw (records-none s g)

  pub long-some : (j : ℕ) → j ≢ 0 → j < count_of s → length (spine (records s j)) ≡ suc (length (spine (records s (next s j))))
  unfolding spine
  long-some j d h = ap (λ t. length (spine t)) (records-some s g j d h)

  pub long-most : (j : ℕ) → j < count_of s → length (spine (records s j)) ≤ 256
  long-most j h = elim (ℕ_discrete j 0) [
    | yes z ↦ rw (ap (λ j. length (spine (records s j))) z ∙ long-none) (omega arith)
    | no d ↦ omega (arith, g.small, along s g (λ j. j ≢ 0 → length (spine (records s j)) + j ≤ count_of s) (λ d. absurd (d refl)) turn j h d)
  ]
    where
      turn : (i : ℕ) → i ≢ 0 → i < count_of s → (next s i ≢ 0 → length (spine (records s (next s i))) + next s i ≤ count_of s) → i ≢ 0 → length (spine (records s i)) + i ≤ count_of s
      turn i d h f _ = elim (ℕ_discrete (next s i) 0) [
        | yes e ↦ omega (arith, long-some i d h, ap (λ j. length (spine (records s j))) e, long-none)
        | no n ↦ omega (arith, long-some i d h, f n, g.forest.next_up i n)
      ]

-- the same by a table of nexts
pub walk_turn : (s : List ℕ) (n : ℕ) → Passed s n → (nexts : List ℕ) → Table (next s) n nexts → (j : ℕ) → j ≢ 0 → j < n
    → (length (spine (records s j)) ≡ suc (length (spine (records s (get_or nexts j 0))))) × (get_or nexts j 0 < n)
walk_turn s n a nexts w j d h =
    let g = good s a.passed in
    (long-some s g j d (omega (arith, a.count)) ∙ ap (λ k. suc (length (spine (records s k)))) (sym (w.at j h)), next-entry s n a nexts w j h)

pub walk-done : (s : List ℕ) (n : ℕ) → Passed s n → (j : ℕ) → j ≡ 0 → length (spine (records s j)) ≡ 0
walk-done s n a j e = ap (λ k. length (spine (records s k))) e ∙ long-none s (good s a.passed)

pub walk-most : (s : List ℕ) (n : ℕ) → Passed s n → (j : ℕ) → j < n → length (spine (records s j)) ≤ 256
walk-most s n a j h = long-most s (good s a.passed) j (omega (arith, a.count))

-- ---- where the parts lie
-- what lies below a place ends where a higher record's begins
pub sum-above : (f : ℕ → ℕ) (n j : ℕ) → j < n → sum f j + f j ≤ sum f n
unfolding sum
sum-above f zero j h = let x : ⊥ = omega arith in absurd x
sum-above f (suc n) j h = elim (ℕ_discrete j n) [ yes q ↦ rw q (omega arith) | no d ↦ omega (arith, sum-above f n j (omega arith)) ]

-- what each record owns of the cells and the registers; no two own the same
abbrev pub layout_of : List ℕ → Layout
layout_of s = record { co = cells_from s; cn = cells s; ro = registers_from s; rn = registers s }

pub rows_of : (s : List ℕ) → Rows (layout_of s)
unfolding sum
rows_of s = record { cells = λ j. omega arith; regs = λ j. omega arith }

-- all within what the sheet needs
pub cells-within : (s : List ℕ) (j : ℕ) → j < count_of s → cells_from s j + cells s j ≤ cells_from s (count_of s)
cells-within s j h = sum-above (cells s) (count_of s) j h

pub registers-within : (s : List ℕ) (j : ℕ) → j < count_of s → registers_from s j + registers s j ≤ registers_from s (count_of s)
registers-within s j h = sum-above (registers s) (count_of s) j h

pub scratch-within : (s : List ℕ) (j : ℕ) → j < count_of s → scratch_from s j + scratch s j ≤ scratch_from s (count_of s)
scratch-within s j h = sum-above (scratch s) (count_of s) j h

-- ---- tables of places
pub record Placed (s : List ℕ) (n : ℕ) (cs rs ss : List ℕ) (c r x : ℕ) : Type 0 where
  pub cells_at : Table (cells_from s) (n + 1) cs
  pub registers_at : Table (registers_from s) (n + 1) rs
  pub scratch_at : Table (scratch_from s) (n + 1) ss
  pub cells_all : c ≡ cells_from s n
  pub registers_all : r ≡ registers_from s n
  pub scratch_all : x ≡ scratch_from s n
  pub cells_most : c ≤ 1474560000
  pub registers_most : r ≤ 2816
  pub scratch_most : x ≤ 65536

pub sums-turn : (f : ℕ → ℕ) (t : List ℕ) (i at v : ℕ) → i < length t → Below (sum f) i t → at ≡ sum f i → v ≡ f i → Below (sum f) (i + 1) (set t i at) × (at + v ≡ sum f (i + 1))
sums-turn f t i at v h w e d = (front-more (sum f) t i at h w e, rw (sum-suc, e, d))

pub sums-done : (f : ℕ → ℕ) (t : List ℕ) (n i at : ℕ) → n ≤ i → i ≤ n → n < length t → Below (sum f) i t → at ≡ sum f i → Table (sum f) (n + 1) (set t i at) × (at ≡ sum f n)
sums-done f t n i at h g l w e =
    let q : i ≡ n = omega arith in
    (record { long = rw length-set (omega arith); at = λ k b. front-more (sum f) t i at (omega arith) w e k (omega arith) }, e ∙ ap (sum f) q)
