-- What a sheet has to which no check of needs applies, as the laws here use it: its links climb, stay among the records and lead to each record but 0 once, and its chains hold what their kinds say.
use Rattle.std.specs.Prelude.{◌≡◌, refl, Bool, true, false, cond, ◌&&◌, List, ◌≢◌, ℕ, suc, ◌+◌, ◌*◌, ◌≤◌, ◌<◌, length}
use Rattle.std.proofs.Common.{arith}
use Rattle.tree.specs.Forest.{Forest}
use Rattle.sheet.specs.Record.{count_of, rate_of, record_at, kind, first, next}
use Rattle.sheet.specs.Kinds.{is_node}
use Rattle.sheet.specs.Checks.{all, length_ok, header_ok, record_ok, links_ok, links_to, once_ok, chain_ok, lowest, check_of}
use Rattle.sheet.specs.Links.{once_at}
use Rattle.sheet.specs.LinkLaws.{once}
use Rattle.sheet.specs.Accepted.{accepted}

pub record Good (s : List ℕ) : Type 0 where
  pub some : 0 < count_of s
  pub small : count_of s ≤ 256
  pub long : length s ≡ 24 + 40 * count_of s
  pub slowest : 8000 ≤ rate_of s
  pub fastest : rate_of s ≤ 192000
  pub known : (i : ℕ) → i < count_of s → record_ok (record_at s i) ≡ true
  pub forest : Forest (first s) (next s)
  pub first_in : (i : ℕ) → first s i ≢ 0 → first s i < count_of s
  pub next_in : (i : ℕ) → next s i ≢ 0 → next s i < count_of s
  pub alone : next s 0 ≡ 0
  pub once : (j : ℕ) → j ≢ 0 → j < count_of s → links_to s j ≡ 1
  pub chains : (i : ℕ) → i < count_of s → chain_ok s i ≡ true
  pub top : is_node (kind s 0) ≡ true

-- ---- tests, and what their truth says
pub false-true : false ≡ true → ⊥
false-true e = let z : ◌≡◌ {A = ℕ} 0 1 = cc in omega arith

pub and_left : (a b : Bool) → a && b ≡ true → a ≡ true
and_left true b e = refl
and_left false b e = e

pub and_right : (a b : Bool) → a && b ≡ true → b ≡ true
and_right true b e = e
and_right false b e = absurd (false-true e)

passes : (b : Bool) (n x : ℕ) → cond b x (suc n) ≡ 0 → (b ≡ true) × (x ≡ 0)
passes true n x e = (refl, e)
passes false n x e = absurd (omega (arith, e))

fifth : (s : List ℕ) → check_of s ≡ 0 → all (once_at (first s) (next s) (count_of s)) (count_of s) ≡ true
unfolding check_of lowest once_ok once_at links_to
fifth s e =
    let n = count_of s in
    let a = passes (length_ok s) 0 _ e in
    let b = passes (header_ok s) 1 _ a.1 in
    let c = passes (all (λ i. record_ok (record_at s i)) n) 2 _ b.1 in
    let d = passes (all (links_ok s) n) 3 _ c.1 in
    (passes (all (once_at (first s) (next s) n) n) 4 _ d.1).0

pub good : (s : List ℕ) → check_of s ≡ 0 → Good s
unfolding links_to
good s e = let a = accepted s e in record {
  some = a.some;
  small = a.few;
  long = a.long;
  slowest = a.rate_least;
  fastest = a.rate_most;
  known = a.records_ok;
  forest = a.forest;
  first_in = λ i d. a.first_in i;
  next_in = λ i d. a.next_in i;
  alone = a.links.root_next;
  once = once a.links (fifth s e);
  chains = a.chains_ok;
  top = a.root_node;
}
