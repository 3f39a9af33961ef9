-- What an accepted sheet has: the laws that whatever reads it rests on
use Rattle.std.specs.Prelude.{◌≡◌, refl, Bool, true, false, cond, ◌&&◌, ◌||◌, List, [], ◌≢◌, ◌⊎◌, eqb, ltb, leb, length, take}
use Rattle.std.proofs.Math.Path.{sym, fun_ext, subst₃}
use Rattle.std.proofs.Common.{ap, subst, ◌∙◌, inl, inr, drop_of_length-le, get_or-take, length-take-le, eqb-true, leb-true, ltb-true, ne_eqb}
use Prim.Native.Nat.{ℕ, zero, suc, ◌+◌, ◌-◌, ◌*◌, ◌≤◌, ◌<◌}
use native.Mathlib.Omega.{arith}
use Rattle.std.proofs.Math.Decide.{ℕ_discrete, dec_lt}
use Rattle.std.proofs.Math.ListN.{get_or-eq_default}
use Rattle.tree.specs.Tree.{node, In, here, kid, rest, Apart}
use Rattle.tree.specs.Forest.{Forest, build, whole, root, root-apart}
use Rattle.sheet.specs.Bytes.{u16_at}
use Rattle.sheet.specs.Record.{count_of, rate_of, record_at, kind, kind_of, option_of, first, next}
use Rattle.sheet.specs.Kinds.{is_node, row_of}
use Rattle.sheet.specs.Tree.{root_tree, depth_of}
use Rattle.sheet.specs.Checks.{all, sum, length_ok, header_ok, record_ok, link_ok, links_ok, once_ok, links_to, chain_ok, depth_ok, lowest, check_of}
use Rattle.sheet.specs.Links.{at, Links, Linked, LinksIn, hits_at, once_at, chain_at, shape_of, Tables, Decoded, Rows, Checked}
use Rattle.sheet.specs.Laws.{both, all-at, sum-some}
use Rattle.sheet.specs.Table.{known-is}
use Rattle.sheet.specs.LinkLaws.{hit-not, once, forest-of, first_below, next-below}

-- ---- checks 1 and 2
pub record Sized (s : List ℕ) : Type 0 where
  pub head : 24 ≤ length s
  pub long : length s ≡ 24 + 40 * count_of s
  pub some : 1 ≤ count_of s
  pub few : count_of s ≤ 256

pub sized : (s : List ℕ) → length_ok s ≡ true → Sized s
unfolding length_ok
sized s e =
    let c = both (leb 24 (length s) && eqb (length s) (24 + 40 * count_of s) && leb 1 (count_of s)) (leb (count_of s) 256) e in
    let b = both (leb 24 (length s) && eqb (length s) (24 + 40 * count_of s)) (leb 1 (count_of s)) c.0 in
    let a = both (leb 24 (length s)) (eqb (length s) (24 + 40 * count_of s)) b.0 in
    record { head = leb-true _ _ a.0; long = eqb-true _ _ a.1; some = leb-true _ _ b.1; few = leb-true _ _ c.1 }

-- 256 rows are enough for any sheet, and fewer for a short one
pub rows-most : (s : List ℕ) (n : ℕ) → 256 ≤ n → Rows s n
rows-most s n h = record { enough = λ l f. omega arith }

pub rows_short : (s : List ℕ) (n : ℕ) → length s ≤ 24 + 40 * n → Rows s n
rows_short s n h = record { enough = λ l f. omega arith }

-- ---- check 4: links climb to records below N, and past the records there is none
module _ (s : List ℕ) (l : length s ≡ 24 + 40 * count_of s) where
  past : (i : ℕ) → count_of s ≤ i → record_at s i ≡ []
  past i h = drop_of_length-le s {i = 24 + 40 * i} (omega arith)

  pub kind-past : (i : ℕ) → count_of s ≤ i → kind s i ≡ 0
  kind-past i h = rw (past i h)

  pub first_past : (i : ℕ) → count_of s ≤ i → first s i ≡ 0
  first_past i h = rw (past i h)

  pub next_past : (i : ℕ) → count_of s ≤ i → next s i ≡ 0
  next_past i h = rw (past i h)

link-says : (i l n : ℕ) → link_ok i l n ≡ true → l ≢ 0 → (i < l) × (l < n)
unfolding link_ok
link-says i l n e d = let b = both (ltb i l) (ltb l n) (rw (ne_eqb l 0 d) at e) in (ltb-true i l b.0, ltb-true l n b.1)

-- the two links of a record that passed
record Pair (s : List ℕ) (i : ℕ) : Type 0 where
  first_ok : link_ok i (first s i) (count_of s) ≡ true
  next_ok : link_ok i (next s i) (count_of s) ≡ true
  root_ok : (ltb 0 i || eqb (next s i) 0) ≡ true

pair_of : (s : List ℕ) (i : ℕ) → links_ok s i ≡ true → Pair s i
unfolding links_ok
pair_of s i e =
    let b = both (link_ok i (first s i) (count_of s) && link_ok i (next s i) (count_of s)) (ltb 0 i || eqb (next s i) 0) e in
    let a = both (link_ok i (first s i) (count_of s)) (link_ok i (next s i) (count_of s)) b.0 in
    record { first_ok = a.0; next_ok = a.1; root_ok = b.1 }

pub links-of : (s : List ℕ) → Sized s → all (links_ok s) (count_of s) ≡ true → Links (first s) (next s) (count_of s)
links-of s z a = record {
  first_in = λ i d. link-says i (first s i) (count_of s) (pair i (λ q. d (first_past s z.long i q))).first_ok d;
  next_in = λ i d. link-says i (next s i) (count_of s) (pair i (λ q. d (next_past s z.long i q))).next_ok d;
  root_next = eqb-true (next s 0) 0 (pair 0 (λ q. omega (arith, z.some))).root_ok;
}
  where
    pair : (i : ℕ) → (count_of s ≤ i → ⊥) → Pair s i
    pair i h = pair_of s i (all-at (links_ok s) (count_of s) a i (elim (dec_lt i (count_of s)) [ yes g ↦ g | no g ↦ absurd (h (omega arith)) ]))

-- ---- the answer, check by check; the last three by the links alone
pub check-is : (s : List ℕ)
    → check_of s ≡ cond (length_ok s) (cond (header_ok s)
    (cond (all (λ i. record_ok (record_at s i)) (count_of s)) (cond (all (links_ok s) (count_of s)) (shape_of (kind s) (first s) (next s) (count_of s)) 4) 3) 2) 1
unfolding check_of lowest shape_of once_ok once_at links_to chain_ok chain_at depth_ok
check-is s = refl

-- ---- tables that hold the records' kinds and links are those, past the records too
pub table_is : (t : List ℕ) (g : ℕ → ℕ) (n : ℕ) → n ≤ length t → ((i : ℕ) → i < n → at t i ≡ g i) → ((i : ℕ) → n ≤ i → g i ≡ 0) → at (take n t) ≡ g
table_is t g n h e z = fun_ext (λ i. elim (dec_lt i n) [
  | yes l ↦ get_or-take n t i 0 l ∙ e i l
  | no l ↦ get_or-eq_default (take n t) 0 {n = i} (omega (arith, length-take-le n t h)) ∙ sym (z i (omega arith))
])

module _ {s ks fs ns : List ℕ} (t : Tables s ks fs ns) (l : length s ≡ 24 + 40 * count_of s) {n : ℕ} (m : n ≡ count_of s) where
  pub kinds-table : n ≤ length ks → at (take n ks) ≡ kind s
  kinds-table h = table_is ks (kind s) n h (λ i g. t.kind_at i (omega arith)) (λ i g. kind-past s l i (omega arith))

  pub first-table : n ≤ length fs → at (take n fs) ≡ first s
  first-table h = table_is fs (first s) n h (λ i g. t.first_at i (omega arith)) (λ i g. first_past s l i (omega arith))

  pub next-table : n ≤ length ns → at (take n ns) ≡ next s
  next-table h = table_is ns (next s) n h (λ i g. t.next_at i (omega arith)) (λ i g. next_past s l i (omega arith))

pub links-same : {f g x y : ℕ → ℕ} {m n : ℕ} → f ≡ g → x ≡ y → m ≡ n → Links g y n → Links f x m
links-same p q r l = subst₃ Links (sym p) (sym q) (sym r) l

-- ---- the answers of `check`, by the tests that lead to them
-- 3, 4, or what the checks after them say
abbrev then : Bool → Bool → ℕ → ℕ
then x y z = cond x (cond y z 4) 3

then-fault : (x y : Bool) (z : ℕ) → then x y 0 ≢ 0 → then x y 0 ≡ then x y z
then-fault true true z h = absurd (h refl)
then-fault true false z h = refl
then-fault false y z h = refl

then-none : (x y : Bool) → then x y 0 ≡ 0 → (x ≡ true) × (y ≡ true)
then-none true true h = (refl, refl)
then-none true false h = absurd (omega (arith, h))
then-none false y h = absurd (omega (arith, h))

-- a record that passes has an option, so that its number is a kind's
optioned : (r : List ℕ) → record_ok r ≡ true → 1 ≤ (row_of (kind_of r)).options
unfolding record_ok
optioned r e =
    let b = both (ltb (option_of r) (row_of (kind_of r)).options && eqb (u16_at r 6) 0) _ e in
    let a = both (ltb (option_of r) (row_of (kind_of r)).options) (eqb (u16_at r 6) 0) b.0 in
    omega (arith, ltb-true _ _ a.0)

module _ (s ks fs ns : List ℕ) where
  pub checked-one : length_ok s ≡ false → Checked s ks fs ns 1
  checked-one a = record { answer = sym (check-is s ∙ rw a); tables = λ q. absurd (omega (arith, q)) }

  module _ (a : length_ok s ≡ true) where
    pub checked-two : header_ok s ≡ false → Checked s ks fs ns 2
    checked-two b = record { answer = sym (check-is s ∙ rw (a, b)); tables = λ q. absurd (omega (arith, q)) }

    module _ (b : header_ok s ≡ true) {d : ℕ} (c : Decoded s ks fs ns d) where
      pub checked-fault : d ≢ 0 → Checked s ks fs ns d
      unfolding lowest
      checked-fault h = record { answer = c.answer ∙ then-fault (all (λ i. record_ok (record_at s i)) (count_of s)) (all (links_ok s) (count_of s)) (shape_of (kind s) (first s) (next s) (count_of s)) (λ q. h (c.answer ∙ q)) ∙ sym (check-is s ∙ rw (a, b)); tables = λ q. absurd (h q) }

      module _ (e : d ≡ 0) where
        passed : (all (λ i. record_ok (record_at s i)) (count_of s) ≡ true) × (all (links_ok s) (count_of s) ≡ true)
        unfolding lowest
        passed = then-none (all (λ i. record_ok (record_at s i)) (count_of s)) (all (links_ok s) (count_of s)) (sym c.answer ∙ e)

        module _ {n : ℕ} (m : n ≡ count_of s) (kl : n ≤ length ks) (fl : n ≤ length fs) (nl : n ≤ length ns) where
          tables-are : Tables s ks fs ns
          tables-are = record { kind_at = λ i g. known-is (kind s i) (at ks i) (optioned (record_at s i) (all-at (λ k. record_ok (record_at s k)) (count_of s) passed.0 i g)) (c.kind_at i g); first_at = c.first_at; next_at = c.next_at }

          kinds-are : at (take n ks) ≡ kind s
          kinds-are = kinds-table tables-are (sized s a).long m kl

          first-are : at (take n fs) ≡ first s
          first-are = first-table tables-are (sized s a).long m fl

          next-are : at (take n ns) ≡ next s
          next-are = next-table tables-are (sized s a).long m nl

          count_is : length (take n fs) ≡ count_of s
          count_is = length-take-le n fs fl ∙ m

          pub tables-linked : LinksIn (take n fs) (take n ns)
          tables-linked = record {
            links = links-same first-are next-are count_is (links-of s (sized s a) passed.1);
            next_long = length-take-le n ns nl ∙ sym (length-take-le n fs fl);
          }

          pub checked-shape : {r : ℕ} → r ≡ shape_of (at (take n ks)) (at (take n fs)) (at (take n ns)) (length (take n fs)) → Checked s ks fs ns r
          checked-shape q = record {
            answer = q ∙ ap (λ (k : ℕ → ℕ). shape_of k (at (take n fs)) (at (take n ns)) (length (take n fs))) kinds-are
                ∙ ap (λ (f : ℕ → ℕ). shape_of (kind s) f (at (take n ns)) (length (take n fs))) first-are
                ∙ ap (λ (x : ℕ → ℕ). shape_of (kind s) (first s) x (length (take n fs))) next-are
                ∙ ap (shape_of (kind s) (first s) (next s)) count_is
                ∙ sym (check-is s ∙ rw (a, b, passed.0, passed.1));
            tables = λ z. tables-are;
          }

-- ---- every record stands in the tree: each but record 0 has a linker, which is lower
module _ {f x : ℕ → ℕ} {n : ℕ} (l : Links f x n) where
  begins : (m k : ℕ) → k ≢ 0 → n ≤ m + k → k < n → In k (build f x m k)
  begins m zero d h g = absurd (d refl)
  begins zero (suc k) d h g = let z : ⊥ = omega arith in absurd z
  begins (suc m) (suc k) d h g = here

  not-zero : (m k : ℕ) {i : ℕ} → In i (build f x m k) → k ≢ 0
  not-zero zero k {i = i} p = elim p [ ]
  not-zero (suc m) zero {i = i} p = elim p [ ]
  not-zero (suc m) (suc k) p = λ e. omega arith

  -- a tree with fuel for all the records holds whatever its records link to
  opens : (m i j : ℕ) → n ≤ suc (m + i) → j ≢ 0 → f i ≡ j → In j (build f x m (f i))
  opens m i j h d e =
      let q = l.first_in i (λ z. d (sym e ∙ z)) in
      subst (λ (t : ℕ). In t (build f x m (f i))) e (begins m (f i) (λ z. d (sym e ∙ z)) (omega (arith, q.0)) q.1)

  goes_on : (m i j : ℕ) → n ≤ suc (m + i) → j ≢ 0 → x i ≡ j → In j (build f x m (x i))
  goes_on m i j h d e =
      let q = l.next_in i (λ z. d (sym e ∙ z)) in
      subst (λ (t : ℕ). In t (build f x m (x i))) e (begins m (x i) (λ z. d (sym e ∙ z)) (omega (arith, q.0)) q.1)

  stays : (m k : ℕ) → n ≤ m + k → {i : ℕ} → In i (build f x m k) → (j : ℕ) → j ≢ 0 → (f i ≡ j) ⊎ (x i ≡ j) → In j (build f x m k)
  stays zero k h {i = i} x5 j d e = elim x5 [ ]
  stays (suc m) zero h {i = i} x10 j d e = elim x10 [ ]
  stays (suc m) (suc k) h here j d (inl e) = kid (opens m (suc k) j (omega arith) d e)
  stays (suc m) (suc k) h here j d (inr e) = rest (goes_on m (suc k) j (omega arith) d e)
  stays (suc m) (suc k) h (kid p) j d e = kid (stays m (f (suc k)) (omega (arith, (l.first_in (suc k) (not-zero m (f (suc k)) p)).0)) p j d e)
  stays (suc m) (suc k) h (rest p) j d e = rest (stays m (x (suc k)) (omega (arith, (l.next_in (suc k) (not-zero m (x (suc k)) p)).0)) p j d e)

  -- from record 0 on
  root-stays : {i : ℕ} → In i (node 0 (build f x (n - f 0) (f 0)) (build f x (n - x 0) (x 0))) → (j : ℕ) → j ≢ 0 → (f i ≡ j) ⊎ (x i ≡ j)
      → In j (node 0 (build f x (n - f 0) (f 0)) (build f x (n - x 0) (x 0)))
  root-stays here j d (inl e) =
      let g = (l.first_in 0 (λ z. d (sym e ∙ z))).1 in
      kid (subst (λ (t : ℕ). In t (build f x (n - f 0) (f 0))) e (begins (n - f 0) (f 0) (λ z. d (sym e ∙ z)) (omega arith) g))
  root-stays here j d (inr e) = absurd (d (sym e ∙ l.root_next))
  root-stays (kid p) j d e = kid (stays (n - f 0) (f 0) (omega arith) p j d e)
  root-stays (rest p) j d e = rest (stays (n - x 0) (x 0) (omega arith) p j d e)

  linker : (j : ℕ) → 0 < sum (hits_at f x j) n → (i : ℕ) × ((f i ≡ j) ⊎ (x i ≡ j))
  linker j h = let s = sum-some (hits_at f x j) n h in (s.0, leads s.0 s.2)
    where
      leads : (i : ℕ) → 0 < hits_at f x j i → (f i ≡ j) ⊎ (x i ≡ j)
      leads i g = elim (ℕ_discrete (f i) j) [
        | yes e ↦ inl e
        | no d ↦ elim (ℕ_discrete (x i) j) [ yes e ↦ inr e | no c ↦ absurd (omega (arith, hit-not (f i) j d, hit-not (x i) j c)) ]
      ]

  lower : (i j : ℕ) → j ≢ 0 → (f i ≡ j) ⊎ (x i ≡ j) → i < j
  lower i j d (inl e) = omega (arith, (l.first_in i (λ z. d (sym e ∙ z))).0)
  lower i j d (inr e) = omega (arith, (l.next_in i (λ z. d (sym e ∙ z))).0)

  pub all_in : ((j : ℕ) → j ≢ 0 → j < n → sum (hits_at f x j) n ≡ 1) → (j : ℕ) → j < n → In j (root f x n)
  unfolding root whole
  all_in one j h = go (suc j) j (omega arith) h
    where
      go : (b j : ℕ) → j < b → j < n → In j (node 0 (build f x (n - f 0) (f 0)) (build f x (n - x 0) (x 0)))
      go zero j g h = let z : ⊥ = omega arith in absurd z
      go (suc b) zero g h = here
      go (suc b) (suc j) g h =
          let d : suc j ≢ 0 = λ e. omega arith in
          let r = linker (suc j) (omega (arith, one (suc j) d h)) in
          let low = lower r.0 (suc j) d r.1 in
          root-stays (go b r.0 (omega arith) (omega arith)) (suc j) d r.1

-- ---- WHAT AN ACCEPTED SHEET HAS
pub record Accepted (s : List ℕ) : Type 0 where
  -- 1 and 2: the header
  pub long : length s ≡ 24 + 40 * count_of s
  pub some : 1 ≤ count_of s
  pub few : count_of s ≤ 256
  pub rate_least : 8000 ≤ rate_of s
  pub rate_most : rate_of s ≤ 192000
  pub clear : u16_at s 2 ≡ 0
  -- 3: each record's kind, option and unused bytes
  pub records_ok : (i : ℕ) → i < count_of s → record_ok (record_at s i) ≡ true
  -- 4 and 5: links climb to records below N, past the records there is none, record 0 has no next, and no record is linked twice
  pub links : Links (first s) (next s) (count_of s)
  pub forest : Forest (first s) (next s)
  pub first_in : (i : ℕ) → first s i < count_of s
  pub next_in : (i : ℕ) → next s i < count_of s
  -- 6 and 7
  pub chains_ok : (i : ℕ) → i < count_of s → chain_ok s i ≡ true
  pub root_node : is_node (kind s 0) ≡ true
  pub depth_most : depth_of s ≤ 16
  -- every record stands in the tree, and none twice
  pub apart : Apart (root_tree s)
  pub all_there : (j : ℕ) → j < count_of s → In j (root_tree s)

passes : (a : Bool) (n r : ℕ) → cond a r (suc n) ≡ 0 → (a ≡ true) × (r ≡ 0)
passes true n r e = (refl, e)
passes false n r e = absurd (omega (arith, e))

pub accepted : (s : List ℕ) → check_of s ≡ 0 → Accepted s
unfolding check_of lowest header_ok depth_ok once_ok once_at links_to
accepted s e =
    let n = count_of s in
    let a1 = passes (length_ok s) 0 _ e in
    let a2 = passes (header_ok s) 1 _ a1.1 in
    let a3 = passes (all (λ i. record_ok (record_at s i)) n) 2 _ a2.1 in
    let a4 = passes (all (links_ok s) n) 3 _ a3.1 in
    let a5 = passes (all (once_at (first s) (next s) n) n) 4 _ a4.1 in
    let a6 = passes (all (chain_ok s) n && is_node (kind s 0)) 5 _ a5.1 in
    let a7 = passes (depth_ok s) 6 _ a6.1 in
    let z = sized s a1.0 in
    let h = both (leb 8000 (rate_of s) && leb (rate_of s) 192000) (eqb (u16_at s 2) 0) a2.0 in
    let g = both (leb 8000 (rate_of s)) (leb (rate_of s) 192000) h.0 in
    let c = both (all (chain_ok s) n) (is_node (kind s 0)) a6.0 in
    let links = links-of s z a4.0 in
    record {
      long = z.long;
      some = z.some;
      few = z.few;
      rate_least = leb-true _ _ g.0;
      rate_most = leb-true _ _ g.1;
      clear = eqb-true _ _ h.1;
      records_ok = all-at _ n a3.0;
      links = links;
      forest = forest-of links a5.0;
      first_in = first_below links z.some;
      next_in = next-below links z.some;
      chains_ok = all-at _ n c.0;
      root_node = c.1;
      depth_most = leb-true _ _ a7.0;
      apart = root-apart (first s) (next s) (forest-of links a5.0) n;
      all_there = all_in links (once links a5.0);
    }

pub linked : {s : List ℕ} → Accepted s → Linked (first s) (next s) (count_of s)
linked a = record { links = a.links; forest = a.forest }
