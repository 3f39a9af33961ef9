-- Laws of kinds and of roles by their numbers. No function asks for them since a kind and a role are enums; they stand since the definitions are over numbers.
use Rattle.std.specs.Prelude.{◌≡◌, refl, Bool, true, false, cond, ◌&&◌, List, ◌≢◌, ℕ, zero, suc, ◌+◌, ◌-◌, ◌*◌, ◌≤◌, ◌<◌, eqb, length, get_or, set}
use Rattle.std.proofs.Common.{sym, ◌∙◌, arith, eq-eqb, ne_eqb}
use Rattle.std.proofs.Math.Path.{ap}
use Rattle.std.proofs.Math.Decide.{ℕ_discrete}
use Rattle.sheet.specs.Record.{count_of, rate_of, record_at, kind, first, next}
use Rattle.sheet.specs.Kinds.{is_processor}
use Rattle.sheet.specs.Tree.{records, spine}
use Rattle.sheet.specs.Links.{Tables}
use Rattle.layout.specs.Built.{owner, trailing, role_in, role, is_built, is_played, begin, after}
use Rattle.layout.specs.declared.Role.TheVariants.{Out, Silent, Built}
use Rattle.layout.specs.Good.{Good, good}
use Rattle.layout.specs.Roles.{stage_from}
use Rattle.layout.specs.Needs.{need_of, noise_cells, chain_length, cells, registers, scratch, cells_by}
use Rattle.layout.specs.Tables.{Table, Passed, Below, From, flag, role_code, code_role, role-code, first_entry, next-entry, next-above, owner-in, front-more, back_more}
use Rattle.layout.proofs.Roles.{role-root, role-in, trailing-none, trailing-some}
use Rattle.layout.proofs.Tables.{stage_is as stage-by}
use Rattle.layout.specs.Counts.{cell_rows, cells_with, registers_with, scratch_with, cells-with, cells-built, registers-some as registers-by, scratch-some as scratch-by, Bare, Unowning, none-unbuilt as unbuilt-none, none_bare as bare-none}

-- the tables that the checks leave, of any sheet
pub held : {s ks fs ns : List ℕ} → Tables s ks fs ns → (n : ℕ) → n ≡ count_of s → n ≤ length ks → n ≤ length fs → n ≤ length ns → Table (kind s) n ks × Table (first s) n fs × Table (next s) n ns
held t n e k f x = (
  record { long = k; at = λ i h. t.kind_at i (omega arith) },
  record { long = f; at = λ i h. t.first_at i (omega arith) },
  record { long = x; at = λ i h. t.next_at i (omega arith) },
)

-- ---- roles by their codes, and tests by their flags
pub code-low : (r : ℕ) → r < 2 → (k : ℕ) (p l : Bool) → role_in (code_role r) k p l ≡ Out
unfolding role_in
code-low zero h k p l = refl
code-low (suc zero) h k p l = refl
code-low (suc (suc r)) h k p l = let x : ⊥ = omega arith in absurd x

pub code-unbuilt : (r : ℕ) → r < 2 → is_built (code_role r) ≡ false
code-unbuilt zero h = refl
code-unbuilt (suc zero) h = refl
code-unbuilt (suc (suc r)) h = let x : ⊥ = omega arith in absurd x

pub code-built : (r : ℕ) → 2 ≤ r → code_role r ≡ Built
code-built zero h = let x : ⊥ = omega arith in absurd x
code-built (suc zero) h = let x : ⊥ = omega arith in absurd x
code-built (suc (suc r)) h = refl

pub code-played : (r : ℕ) → r ≢ 0 → is_played (code_role r) ≡ true
code-played zero h = absurd (h refl)
code-played (suc zero) h = refl
code-played (suc (suc r)) h = refl

pub is-built : (s : List ℕ) (i r : ℕ) → r ≡ role_code (role s i) → 2 ≤ r → role s i ≡ Built
is-built s i r er h = sym (role-code (role s i)) ∙ ap code_role (sym er) ∙ code-built r h

pub root-code : (b : Bool) → cond b 1 2 ≡ role_code (cond b Silent Built)
root-code true = refl
root-code false = refl

pub flag_is : (b : Bool) → eqb (flag b) 1 ≡ b
flag_is true = refl
flag_is false = refl

-- ---- one record's entries from the entries beside it, all numbers
abbrev pub trails_of : ℕ → ℕ → ℕ → ℕ
trails_of n k t = cond (eqb n 0) 1 (cond (is_processor k) t 0)

abbrev pub stage_of : ℕ → ℕ → ℕ → ℕ
stage_of t j f = cond (eqb t 1) j f

abbrev pub role_of : ℕ → ℕ → ℕ → ℕ → ℕ
role_of r o k t = role_code (role_in (code_role r) o (is_processor k) (eqb t 1))

abbrev pub root_of : ℕ → ℕ
root_of k = cond (is_processor k) 1 2

abbrev pub begin_of : ℕ → ℕ → ℕ → ℕ → ℕ
begin_of r k f st = cond (is_built (code_role r)) (cond (eqb k 13) st f) 0

abbrev pub after_of : ℕ → ℕ → ℕ
after_of r n = cond (is_played (code_role r)) n 0

module _ (s : List ℕ) (n : ℕ) (a : Passed s n) where
  accepted : Good s
  accepted = good s a.passed

  pub trails-is : (j m k t : ℕ) → m ≡ next s j → k ≡ kind s m → (m ≢ 0 → t ≡ flag (trailing s m)) → trails_of m k t ≡ flag (trailing s j)
  trails-is j m k t em ek et = elim (ℕ_discrete m 0) [
    | yes z ↦ rw (eq-eqb m 0 z, trailing-none s accepted j (sym em ∙ z))
    | no d ↦ rw (ne_eqb m 0 d, trailing-some s accepted j m (sym em) d, ek, et d) (both (is_processor (kind s m)) (trailing s m))
  ]
    where
      both : (x y : Bool) → cond x (flag y) 0 ≡ flag (x && y)
      both true y = refl
      both false y = refl

  pub stage_is : (j t f : ℕ) → j < n → t ≡ flag (trailing s j) → (next s j ≢ 0 → f ≡ stage_from s (next s j)) → stage_of t j f ≡ stage_from s j
  stage_is j t f h et ef = rw (et, flag_is (trailing s j)) (stage-by s n a j f h ef)

  pub root_is : (i k : ℕ) → i ≡ 0 → k ≡ kind s i → root_of k ≡ role_code (role s i)
  root_is i k z e = rw (e, z, role-root s accepted) (root-code (is_processor (kind s 0)))

  pub role-is : (j o r ko kj t : ℕ) → j ≢ 0 → j < n → o ≡ owner s j → r ≡ role_code (role s o) → ko ≡ kind s o → kj ≡ kind s j → t ≡ flag (trailing s j) → role_of r ko kj t ≡ role_code (role s j)
  role-is j o r ko kj t d h eo er eko ekj et =
      rw (role-in s accepted j d (omega (arith, a.count)), ← eo, er, eko, ekj, et, role-code (role s o), flag_is (trailing s j))

  pub begin-is : (i r k f st : ℕ) → r ≡ role_code (role s i) → k ≡ kind s i → f ≡ first s i → st ≡ stage_from s f → begin_of r k f st ≡ begin s i
  unfolding begin
  begin-is i r k f st er ek ef es = rw (er, ek, es, ef, role-code (role s i))

  pub after_is : (i r m : ℕ) → r ≡ role_code (role s i) → m ≡ next s i → after_of r m ≡ after s i
  unfolding after
  after_is i r m er em = rw (er, em, role-code (role s i))

  -- ---- a turn of each loop, by the tables that it reads
  pub stages-turn : (kinds nexts lasts froms : List ℕ) → Table (kind s) n kinds → Table (next s) n nexts → (j : ℕ) → 0 < j → j ≤ n → n ≤ length lasts → n ≤ length froms
      → From (λ k. flag (trailing s k)) j n lasts → From (stage_from s) j n froms → (t f : ℕ)
      → t ≡ trails_of (get_or nexts (j - 1) 0) (get_or kinds (get_or nexts (j - 1) 0) 0) (get_or lasts (get_or nexts (j - 1) 0) 0) → f ≡ stage_of t (j - 1) (get_or froms (get_or nexts (j - 1) 0) 0)
      → From (λ k. flag (trailing s k)) (j - 1) n (set lasts (j - 1) t) × From (stage_from s) (j - 1) n (set froms (j - 1) f)
  stages-turn kinds nexts lasts froms wk wn j z h ll lf dl df t f et ef =
      let m : ℕ = get_or nexts (j - 1) 0 in
      let em : m ≡ next s (j - 1) = wn.at (j - 1) (omega arith) in
      let above : (m ≢ 0 → j ≤ m) = λ d. omega (arith, em, next-above s n a (j - 1) (λ y. d (em ∙ y))) in
      let within : m < n = next-entry s n a nexts wn (j - 1) (omega arith) in
      let is_last : t ≡ flag (trailing s (j - 1)) = et ∙ trails-is (j - 1) m (get_or kinds m 0) (get_or lasts m 0) em (wk.at m within) (λ d. dl m (above d) within) in (
        back_more (λ k. flag (trailing s k)) lasts j n t z (omega arith) dl is_last,
        back_more (stage_from s) froms j n f z (omega arith) df (ef ∙ stage_is (j - 1) t _ (omega arith) is_last (λ d. df m (above (λ y. d (sym em ∙ y))) within ∙ ap (stage_from s) em)),
      )

  pub role-entry : (kinds lasts acts : List ℕ) → Table (kind s) n kinds → Table (λ j. flag (trailing s j)) n lasts → (j o : ℕ) → j ≢ 0 → j < n → o ≡ owner s j → Below (λ k. role_code (role s k)) j acts
      → role_of (get_or acts o 0) (get_or kinds o 0) (get_or kinds j 0) (get_or lasts j 0) ≡ role_code (role s j)
  role-entry kinds lasts acts wk wl j o d h e w =
      let b : o < j = omega (arith, owner-in s n a j d h) in role-is j o _ _ _ _ d h e (w o b) (wk.at o (omega arith)) (wk.at j h) (wl.at j h)

  pub begins-turn : (kinds firsts froms begins : List ℕ) → Table (kind s) n kinds → Table (first s) n firsts → Table (stage_from s) n froms
      → (i r : ℕ) → i < n → r ≡ role_code (role s i) → n ≤ length begins → Below (begin s) i begins → (v : ℕ) → v ≡ begin_of r (get_or kinds i 0) (get_or firsts i 0) (get_or froms (get_or firsts i 0) 0)
      → Below (begin s) (i + 1) (set begins i v)
  begins-turn kinds firsts froms begins wk wf wr i r h er l w v e = front-more (begin s) begins i v (omega arith) w
      (e ∙ begin-is i _ _ (get_or firsts i 0) _ er (wk.at i h) (wf.at i h) (wr.at (get_or firsts i 0) (first_entry s n a firsts wf i h)))

  pub afters-turn : (nexts afters : List ℕ) → Table (next s) n nexts
      → (i r : ℕ) → i < n → r ≡ role_code (role s i) → n ≤ length afters → Below (after s) i afters → (v : ℕ) → v ≡ after_of r (get_or nexts i 0) → Below (after s) (i + 1) (set afters i v)
  afters-turn nexts afters wn i r h er l w v e = front-more (after s) afters i v (omega arith) w (e ∙ after_is i _ _ er (wn.at i h))

-- ---- cells
pub noise-other : (c : ℕ) → c ≢ 0 → c ≢ 1 → noise_cells c ≡ 1
noise-other zero a b = absurd (a refl)
noise-other (suc zero) a b = absurd (b refl)
noise-other (suc (suc c)) a b = refl

-- a kind without a row, or Modal without modes
pub cells-other : (k v c d b h : ℕ) → 1 ≢ k → 2 ≢ k → 3 ≢ k → 4 ≢ k → 5 ≢ k → 6 ≢ k → 9 ≢ k → 10 ≢ k → 22 ≢ k → 23 ≢ k → 24 ≢ k → 25 ≢ k → 26 ≢ k → 27 ≢ k → 28 ≢ k → 29 ≢ k → 30 ≢ k → 32 ≢ k → 34 ≢ k → 35 ≢ k → 46 ≢ k → 0 ≡ need_of k (cell_rows v c d b 0 h)
unfolding need_of
cells-other k v c d b h n1 n2 n3 n4 n5 n6 n9 n10 n22 n23 n24 n25 n26 n27 n28 n29 n30 n32 n34 n35 n46 = elim (ℕ_discrete 31 k) [
  | yes q ↦ ap (λ k. need_of k (cell_rows v c d b 0 h)) q
  | no n31 ↦ rw (ne_eqb 1 k n1, ne_eqb 2 k n2, ne_eqb 3 k n3, ne_eqb 4 k n4, ne_eqb 5 k n5, ne_eqb 6 k n6, ne_eqb 9 k n9, ne_eqb 10 k n10, ne_eqb 22 k n22, ne_eqb 23 k n23, ne_eqb 24 k n24, ne_eqb 25 k n25, ne_eqb 26 k n26, ne_eqb 27 k n27, ne_eqb 28 k n28, ne_eqb 29 k n29, ne_eqb 30 k n30, ne_eqb 31 k n31, ne_eqb 32 k n32, ne_eqb 34 k n34, ne_eqb 35 k n35, ne_eqb 46 k n46)
]

-- a chain's length counts for Modal only
pub no-modes : (k : ℕ) → 31 ≢ k → (r : List ℕ) (rate m n : ℕ) → cells_with r rate k m ≡ cells_with r rate k n
unfolding need_of
no-modes k d r rate m n = rw (ne_eqb 31 k d)

pub cells-made : (s : List ℕ) (i k rate x : ℕ) (part : List ℕ) → part ≡ record_at s i → rate ≡ rate_of s → k ≡ kind s i → k ≢ 31 → x ≡ cells_with part rate k 0 → x ≡ cells_by s i
cells-made s i k rate x part ep et ek d e =
    e ∙ ap (λ p. cells_with p rate k 0) ep ∙ ap (λ t. cells_with (record_at s i) t k 0) et ∙ ap (λ k. cells_with (record_at s i) (rate_of s) k 0) ek ∙ no-modes (kind s i) (λ q. d (ek ∙ sym q)) (record_at s i) (rate_of s) 0 (chain_length s i) ∙ sym (cells-with s i)

pub modal-made : (s : List ℕ) (i k f n : ℕ) → k ≡ kind s i → f ≡ first s i → k ≡ 31 → n ≡ length (spine (records s f)) → 5 * n ≡ cells_by s i
unfolding need_of
modal-made s i k f n ek ef z en =
    ap (λ m. 5 * m) (en ∙ ap (λ f. length (spine (records s f))) ef) ∙ ap (λ k. cells_with (record_at s i) (rate_of s) k (chain_length s i)) (sym z ∙ ek) ∙ sym (cells-with s i)

-- ---- what a record needs, by its role's number
pub cells-some : (s : List ℕ) (i r : ℕ) → r ≡ role_code (role s i) → 2 ≤ r → cells s i ≡ cells_by s i
cells-some s i r er h = cells-built s i (is-built s i r er h)

pub registers-some : (s : List ℕ) (i k r : ℕ) → k ≡ kind s i → r ≡ role_code (role s i) → 2 ≤ r → registers_with k ≡ registers s i
registers-some s i k r ek er h = registers-by s i k ek (is-built s i r er h)

pub scratch-some : (s : List ℕ) (i k r : ℕ) → k ≡ kind s i → r ≡ role_code (role s i) → 2 ≤ r → scratch_with k ≡ scratch s i
scratch-some s i k r ek er h = scratch-by s i k ek (is-built s i r er h)

abbrev pub UnowningBy : ℕ → ℕ → Type 0
UnowningBy k r = (s : List ℕ) (i : ℕ) → k ≡ kind s i → r ≡ role_code (role s i) → (cells s i ≡ 0) × (registers s i ≡ 0) × (scratch s i ≡ 0)

unowning-by : (k r : ℕ) → Unowning k (code_role r) → UnowningBy k r
unowning-by k r w s i ek er = w s i ek (ap code_role er ∙ role-code (role s i))

pub none-unbuilt : (k r : ℕ) → r < 2 → UnowningBy k r
none-unbuilt k r h = unowning-by k r (unbuilt-none k (code_role r) (code-unbuilt r h))

pub none_bare : (k r : ℕ) → Bare k → UnowningBy k r
none_bare k r w = unowning-by k r (bare-none k (code_role r) w)
