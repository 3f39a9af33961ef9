-- Checks 1 to 7 of document 01, each as what must hold; the answer is the lowest number whose check fails, and 0 where none does.
use Rattle.std.specs.Prelude.{Bool, true, false, cond, ◌&&◌, ◌||◌, List, [], ◌∷◌, map, ℕ, zero, suc, ◌+◌, ◌-◌, ◌*◌, length, leb, ltb, eqb}
use Rattle.sheet.specs.Bytes.{byte_at, u16_at}
use Rattle.sheet.specs.Record.{count_of, rate_of, kind_of, option_of, record_at, kind, first, next}
use Rattle.sheet.specs.Kinds.{Chain, empty, values, nodes, modes, steps, row_of, is_node, is_value}
use Rattle.sheet.specs.Tree.{records, spine, depth_of}

-- p holds of 0 up to n - 1; of every member
unfoldable pub all : (ℕ → Bool) → ℕ → Bool
all p zero = true
all p (suc n) = all p n && p n

unfoldable pub every : (ℕ → Bool) → List ℕ → Bool
every p [] = true
every p (x ∷ xs) = p x && every p xs

-- 1: the length is 24 + 40 N, and N is 1 to 256. A sheet shorter than its header has none.
unfoldable pub length_ok : List ℕ → Bool
length_ok s = leb 24 (length s) && eqb (length s) (24 + 40 * count_of s) && leb 1 (count_of s) && leb (count_of s) 256

-- 2: the rate is 8,000 to 192,000, and header bytes 2 and 3 are zero
unfoldable pub header_ok : List ℕ → Bool
header_ok s = leb 8000 (rate_of s) && leb (rate_of s) 192000 && eqb (u16_at s 2) 0

-- 3: the kind is known and has the option, and the bytes that it does not use are zero: 6 and 7, and the numbers past those it uses
unfoldable pub record_ok : List ℕ → Bool
record_ok r =
    let row = row_of (kind_of r) in
    ltb (option_of r) row.options && eqb (u16_at r 6) 0 && all (λ k. eqb (byte_at r (8 + 4 * row.numbers + k)) 0) (32 - 4 * row.numbers)

-- 4: a link is zero, or above its own record and below N; record 0 has no next
unfoldable pub link_ok : ℕ → ℕ → ℕ → Bool
link_ok i l n = eqb l 0 || (ltb i l && ltb l n)

unfoldable pub links_ok : List ℕ → ℕ → Bool
links_ok s i = link_ok i (first s i) (count_of s) && link_ok i (next s i) (count_of s) && (ltb 0 i || eqb (next s i) 0)

-- 5: one link leads to a record other than 0
unfoldable pub hit : ℕ → ℕ → ℕ
hit l j = cond (eqb l j) 1 0

unfoldable pub sum : (ℕ → ℕ) → ℕ → ℕ
sum f zero = 0
sum f (suc n) = sum f n + f n

unfoldable pub links_to : List ℕ → ℕ → ℕ
links_to s j = sum (λ i. hit (first s i) j + hit (next s i) j) (count_of s)

unfoldable pub once_ok : List ℕ → ℕ → Bool
once_ok s j = eqb j 0 || eqb (links_to s j) 1

-- 6: a chain holds what its record's kind says, by the kinds of its records, and record 0 is a node
unfoldable pub holds : Chain → List ℕ → Bool
holds empty ks = eqb (length ks) 0
holds (values n) ks = eqb (length ks) n && every is_value ks
holds nodes ks = every is_node ks
holds modes ks = every (λ k. eqb k 51) ks
holds steps ks = every (λ k. eqb k 52) ks

-- the same in two parts: a record of this kind may stand in it, and it may have this many
unfoldable pub allows : Chain → ℕ → Bool
allows empty k = false
allows (values n) k = is_value k
allows nodes k = is_node k
allows modes k = eqb k 51
allows steps k = eqb k 52

unfoldable pub counts : Chain → ℕ → Bool
counts empty m = true
counts (values n) m = eqb m n
counts nodes m = true
counts modes m = true
counts steps m = true

unfoldable pub chain_ok : List ℕ → ℕ → Bool
chain_ok s i = holds (row_of (kind s i)).chain (map (kind s) (spine (records s (first s i))))

-- 7: nodes nest at most 16 deep
unfoldable pub depth_ok : List ℕ → Bool
depth_ok s = leb (depth_of s) 16

pub data Test : Type 0 where
  check : ℕ → Bool → Test

unfoldable pub lowest : List Test → ℕ
lowest [] = 0
lowest (check n ok ∷ rest) = cond ok (lowest rest) n

unfoldable pub check_of : List ℕ → ℕ
check_of s =
    let n = count_of s in
    lowest
    (check 1 (length_ok s)
    ∷ check 2 (header_ok s)
    ∷ check 3 (all (λ i. record_ok (record_at s i)) n)
    ∷ check 4 (all (links_ok s) n)
    ∷ check 5 (all (once_ok s) n)
    ∷ check 6 (all (chain_ok s) n && is_node (kind s 0))
    ∷ check 7 (depth_ok s)
    ∷ [])
