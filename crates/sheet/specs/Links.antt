-- The checks of links over tables: k, f and x give a record's kind, first and next, n how many records there are. Those of a sheet are these at its own fields.
use Rattle.std.specs.Prelude.{◌≡◌, Bool, cond, ◌&&◌, ◌||◌, List, [], ◌∷◌, map, ◌≢◌, ℕ, ◌+◌, ◌*◌, ◌≤◌, ◌<◌, leb, ltb, eqb, length, get_or}
use Rattle.tree.specs.Forest.{Forest, whole, root}
use Rattle.sheet.specs.Record.{count_of, kind, first, next, record_at}
use Rattle.sheet.specs.Kinds.{row_of, is_node}
use Rattle.sheet.specs.Numbers.{kind_number}
use Rattle.sheet.specs.declared.kinds.Kind.{Kind}
use Rattle.sheet.specs.Tree.{spine, depth}
use Rattle.sheet.specs.Checks.{all, hit, sum, holds, link_ok, record_ok, links_ok, check_of, check, lowest}

-- a table of numbers, 0 past its end
abbrev pub at : List ℕ → ℕ → ℕ
at t i = get_or t i 0

-- 4, at record i with its links l and m
unfoldable pub links_at : ℕ → ℕ → ℕ → ℕ → Bool
links_at n i l m = link_ok i l n && link_ok i m n && (ltb 0 i || eqb m 0)

-- every link climbs to a record below n, and record 0 has no next: what check 4 leaves
pub record Links (f x : ℕ → ℕ) (n : ℕ) : Type 0 where
  pub first_in : (i : ℕ) → f i ≢ 0 → (i < f i) × (f i < n)
  pub next_in : (i : ℕ) → x i ≢ 0 → (i < x i) × (x i < n)
  pub root_next : x 0 ≡ 0

-- with no record linked twice: what check 5 leaves
pub record Linked (f x : ℕ → ℕ) (n : ℕ) : Type 0 where
  pub links : Links f x n
  pub forest : Forest f x

abbrev pub hits_at : (ℕ → ℕ) → (ℕ → ℕ) → ℕ → ℕ → ℕ
hits_at f x j i = hit (f i) j + hit (x i) j

-- below m the table t counts the links of the records below i, but for record 0's next, which is 0
pub record Counted (f x : ℕ → ℕ) (m : ℕ) (t : List ℕ) (i : ℕ) : Type 0 where
  pub is : (j : ℕ) → j < m → at t j + hit 0 j ≡ sum (hits_at f x j) i

unfoldable pub once_at : (ℕ → ℕ) → (ℕ → ℕ) → ℕ → ℕ → Bool
once_at f x n j = eqb j 0 || eqb (sum (hits_at f x j) n) 1

-- the kinds along the chain that begins at j
abbrev pub along : (k f x : ℕ → ℕ) → ℕ → ℕ → List ℕ
along k f x n j = map k (spine (whole f x n j))

unfoldable pub chain_at : (k f x : ℕ → ℕ) → ℕ → ℕ → Bool
chain_at k f x n i = holds (row_of (k i)).chain (along k f x n (f i))

abbrev pub depth_at : (k f x : ℕ → ℕ) → ℕ → ℕ → ℕ
depth_at k f x n j = depth (λ i. is_node (k i)) (whole f x n j)

-- 5, 6 and 7
unfoldable pub shape_of : (k f x : ℕ → ℕ) → ℕ → ℕ
shape_of k f x n =
    lowest
    (check 5 (all (once_at f x n) n)
    ∷ check 6 (all (chain_at k f x n) n && is_node (k 0))
    ∷ check 7 (leb (depth (λ i. is_node (k i)) (root f x n)) 16)
    ∷ [])

-- ---- the same of tables: ks, fs and ns hold the records' kinds, firsts and nexts, and nothing more
pub record LinksIn (fs ns : List ℕ) : Type 0 where
  pub links : Links (at fs) (at ns) (length fs)
  pub next_long : length ns ≡ length fs

pub record LinkedIn (ks fs ns : List ℕ) : Type 0 where
  pub linked : Linked (at fs) (at ns) (length fs)
  pub kinds_long : length ks ≡ length fs
  pub next_long : length ns ≡ length fs

abbrev pub once_in : List ℕ → List ℕ → Bool
once_in fs ns = all (once_at (at fs) (at ns) (length fs)) (length fs)

abbrev pub along_in : List ℕ → List ℕ → List ℕ → ℕ → List ℕ
along_in ks fs ns i = along (at ks) (at fs) (at ns) (length fs) (at fs i)

abbrev pub chain_in : List ℕ → List ℕ → List ℕ → ℕ → Bool
chain_in ks fs ns i = chain_at (at ks) (at fs) (at ns) (length fs) i

abbrev pub depth_in : List ℕ → List ℕ → List ℕ → ℕ → ℕ
depth_in ks fs ns j = depth_at (at ks) (at fs) (at ns) (length fs) j

abbrev pub shape_in : List ℕ → List ℕ → List ℕ → ℕ
shape_in ks fs ns = shape_of (at ks) (at fs) (at ns) (length fs)

-- ---- what the tables hold
pub record Tables (s ks fs ns : List ℕ) : Type 0 where
  pub kind_at : (i : ℕ) → i < count_of s → at ks i ≡ kind s i
  pub first_at : (i : ℕ) → i < count_of s → at fs i ≡ first s i
  pub next_at : (i : ℕ) → i < count_of s → at ns i ≡ next s i

-- after a pass over the records: every kind, where the number is a kind's, and every link
pub record Decoded (s ks fs ns : List ℕ) (r : ℕ) : Type 0 where
  pub answer : r ≡ lowest (check 3 (all (λ i. record_ok (record_at s i)) (count_of s)) ∷ check 4 (all (links_ok s) (count_of s)) ∷ [])
  pub kind_at : (i : ℕ) → i < count_of s → (k : Kind) → kind_number k ≡ kind s i → at ks i ≡ kind s i
  pub first_at : (i : ℕ) → i < count_of s → at fs i ≡ first s i
  pub next_at : (i : ℕ) → i < count_of s → at ns i ≡ next s i

-- tables of n rows have one for every record of a sheet whose length check 1 accepts
pub record Rows (s : List ℕ) (n : ℕ) : Type 0 where
  pub enough : length s ≡ 24 + 40 * count_of s → count_of s ≤ 256 → count_of s ≤ n

-- THE ANSWER; where it is 0 the tables hold every record's kind and links, and where not, nothing is said of them
pub record Checked (s ks fs ns : List ℕ) (r : ℕ) : Type 0 where
  pub answer : r ≡ check_of s
  pub tables : r ≡ 0 → Tables s ks fs ns

-- 1 for a node
abbrev pub nodes_at : (ℕ → ℕ) → ℕ → ℕ
nodes_at k i = cond (is_node (k i)) 1 0
