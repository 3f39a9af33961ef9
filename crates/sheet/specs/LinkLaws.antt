-- Laws of links: where they lead, how they are counted, that no record stands twice, and what is left of a chain
use Rattle.std.proofs.Math.Path.{◌≡◌, refl, sym, ap}
use Rattle.std.proofs.Common.{◌∙◌, length-set, get_or-set_same, get_or-set_other}
use Rattle.std.specs.Prelude.{Bool, cond, not, ◌&&◌, ◌≢◌, leb, ltb, set, replicate}
use Rattle.std.proofs.Math.Bool.{true, false}
use mathlib.Core.List.{List, [], ◌∷◌}
use Prim.Native.Nat.{ℕ, zero, suc, ◌+◌, ◌-◌, ◌*◌, ◌≤◌, ◌<◌, max}
use native.Mathlib.Omega.{arith}
use Rattle.std.proofs.Math.Decide.{ℕ_discrete, dec_lt}
use Rattle.std.proofs.Math.Dec.{eqb, eqb-suc-zero}
use Rattle.std.proofs.Math.ListN.{length}
use borrow.Author.Tests.{eq-eqb, ne_eqb, eqb-true, ltb-true, ltb-false, lt-ltb, le-ltb, le-leb, lt-leb}
use Rattle.tree.specs.Tree.{node}
use Rattle.tree.specs.Forest.{Forest, build, whole, root, whole-nil, whole-node}
use Rattle.sheet.specs.Kinds.{Chain, empty, values, nodes, modes, steps, is_node, is_value}
use Rattle.sheet.specs.Tree.{spine, depth}
use Rattle.sheet.specs.Checks.{all, every, hit, sum, holds, allows, counts, lowest}
use Rattle.sheet.specs.Links.{at, nodes_at, Links, Linked, hits_at, Counted, once_at, along, chain_at, depth_at, shape_of}
use Rattle.sheet.specs.Laws.{both, and_assoc, and_comm, and-true, all-at, sum-suc, sum_one, sum-two}

-- ---- how links are counted
pub hit-is : (l j : ℕ) → l ≡ j → hit l j ≡ 1
unfolding hit
hit-is l j e = rw (eq-eqb l j e)

pub hit-not : (l j : ℕ) → l ≢ j → hit l j ≡ 0
unfolding hit
hit-not l j d = rw (ne_eqb l j d)

pub hit-most : (l j : ℕ) → hit l j ≤ 1
hit-most l j = elim (ℕ_discrete l j) [ yes e ↦ omega (arith, hit-is l j e) | no d ↦ omega (arith, hit-not l j d) ]

pub hits-most : (f x : ℕ → ℕ) (j i : ℕ) → sum (hits_at f x j) i ≤ 2 * i
unfolding sum
hits-most f x j zero = omega arith
hits-most f x j (suc i) = omega (arith, hits-most f x j i, hit-most (f i) j, hit-most (x i) j)

-- a table of counts at its start
pub zeros : (n j : ℕ) → at (replicate n 0) j ≡ 0
zeros zero j = refl
zeros (suc n) zero = refl
zeros (suc n) (suc j) = zeros n j

-- one more at l, in a table of counts
pub bump : (t : List ℕ) (l j : ℕ) → l < length t → at (set t l (at t l + 1)) j ≡ at t j + hit l j
bump t l j h = elim (ℕ_discrete l j) [
  | yes e ↦ rw (hit-is l j e, ← e) (get_or-set_same t l (at t l + 1) 0 h)
  | no d ↦ let z = hit-not l j d in get_or-set_other t l j (at t l + 1) 0 (λ q. d (sym q)) ∙ omega arith
]

pub count-start : {f x : ℕ → ℕ} {n : ℕ} → Links f x n → (t : List ℕ) → f 0 < length t → ((j : ℕ) → at t j ≡ 0) → Counted f x n (set t (f 0) 1) 1
unfolding sum
count-start {f} {x} l t h z = record {
  is = λ j g. omega (arith, ap (λ (v : ℕ). at (set t (f 0) v) j) one ∙ bump t (f 0) j h, z j, sum-suc (hits_at f x j) 0, ap (λ (m : ℕ). hit m j) l.root_next);
}
  where
    one : 1 ≡ at t (f 0) + 1
    one = omega (arith, z (f 0))

module _ {f x : ℕ → ℕ} {n i : ℕ} {t : List ℕ} (c : Counted f x n t i) where
  pub count-first : (l : ℕ) → l < n → at t l ≤ 2 * i
  count-first l h = omega (arith, c.is l h, hits-most f x l i)

  pub count_next : (l m : ℕ) → l < length t → m < n → at (set t l (at t l + 1)) m ≤ 2 * i + 1
  count_next l m h g = omega (arith, bump t l m h, count-first m g, hit-most l m)

  pub count_turn : f i < length t → x i < length t → Counted f x n (set (set t (f i) (at t (f i) + 1)) (x i) (at (set t (f i) (at t (f i) + 1)) (x i) + 1)) (i + 1)
  count_turn h g = record {
    is = λ j k. let u = set t (f i) (at t (f i) + 1) in
        omega (arith, bump u (x i) j (simp length-set g), bump t (f i) j h, c.is j k, sum-suc (hits_at f x j) i);
  }

-- ---- where links lead
module _ {f x : ℕ → ℕ} {n : ℕ} (l : Links f x n) (some : 1 ≤ n) where
  pub first_below : (i : ℕ) → f i < n
  first_below i = elim (ℕ_discrete (f i) 0) [ yes e ↦ omega arith | no d ↦ (l.first_in i d).1 ]

  pub next-below : (i : ℕ) → x i < n
  next-below i = elim (ℕ_discrete (x i) 0) [ yes e ↦ omega arith | no d ↦ (l.next_in i d).1 ]

-- ---- a record's links come from below it, so that they are counted at its turn
module _ {f x : ℕ → ℕ} {n : ℕ} (l : Links f x n) where
  settled : (j i : ℕ) → j ≢ 0 → j ≤ i → sum (hits_at f x j) i ≡ sum (hits_at f x j) j
  unfolding sum
  settled j zero d h = let e : j ≡ 0 = omega arith in absurd (d e)
  settled j (suc i) d h = elim (ℕ_discrete j (suc i)) [
    | yes e ↦ ap (sum (hits_at f x j)) (sym e)
    | no g ↦
        let a = hit-not (f i) j (λ e. omega (arith, (l.first_in i (λ z. d (sym e ∙ z))).0)) in
        let b = hit-not (x i) j (λ e. omega (arith, (l.next_in i (λ z. d (sym e ∙ z))).0)) in
        omega (arith, settled j i d (omega arith), a, b)
  ]

  pub once-turn : {t : List ℕ} {i : ℕ} → Counted f x n t i → i ≢ 0 → i < n → eqb (at t i) 1 ≡ once_at f x n i
  unfolding once_at
  once-turn {t} {i} c d h = rw (ne_eqb i 0 d) (ap (λ (v : ℕ). eqb v 1) (go (at t i) (c.is i h) (hit-not 0 i (λ e. d (sym e))) (settled i n d (omega arith))))
    where
      go : (v : ℕ) → v + hit 0 i ≡ sum (hits_at f x i) i → hit 0 i ≡ 0 → sum (hits_at f x i) n ≡ sum (hits_at f x i) i → v ≡ sum (hits_at f x i) n
      go v p q r = omega arith

-- ---- no record is linked twice
module _ {f x : ℕ → ℕ} {n : ℕ} (l : Links f x n) (o : all (once_at f x n) n ≡ true) where
  pub once : (j : ℕ) → j ≢ 0 → j < n → sum (hits_at f x j) n ≡ 1
  unfolding once_at
  once j d h = eqb-true _ 1 (rw (ne_eqb j 0 d) at (all-at (once_at f x n) n o j h))

  first-inside : (i : ℕ) → f i ≢ 0 → i < n
  first-inside i d = omega (arith, (l.first_in i d).0, (l.first_in i d).1)

  next-inside : (i : ℕ) → x i ≢ 0 → i < n
  next-inside i d = omega (arith, (l.next_in i d).0, (l.next_in i d).1)

  clash : (j i k : ℕ) → j ≢ 0 → j < n → i ≢ k → i < n → k < n → 1 ≤ hits_at f x j i → 1 ≤ hits_at f x j k → ⊥
  clash j i k d h a hi hk p q = elim (dec_lt i k) [
    | yes g ↦ omega (arith, once j d h, sum-two (hits_at f x j) n i k g hk)
    | no g ↦ let m : k < i = omega arith in omega (arith, once j d h, sum-two (hits_at f x j) n k i m hi)
  ]

  first-hits : (j i : ℕ) → f i ≡ j → 1 ≤ hits_at f x j i
  first-hits j i e = omega (arith, hit-is (f i) j e)

  next-hits : (j i : ℕ) → x i ≡ j → 1 ≤ hits_at f x j i
  next-hits j i e = omega (arith, hit-is (x i) j e)

  pub forest-of : Forest f x
  forest-of = record {
    first_up = λ i d. (l.first_in i d).0;
    next_up = λ i d. (l.next_in i d).0;
    first_one = λ i k d e. elim (ℕ_discrete i k) [
      | yes q ↦ q
      | no a ↦ absurd (clash (f i) i k d (l.first_in i d).1 a (first-inside i d) (first-inside k (λ z. d (e ∙ z))) (first-hits _ i refl) (first-hits _ k (sym e)))
    ];
    next_one = λ i k d e. elim (ℕ_discrete i k) [
      | yes q ↦ q
      | no a ↦ absurd (clash (x i) i k d (l.next_in i d).1 a (next-inside i d) (next-inside k (λ z. d (e ∙ z))) (next-hits _ i refl) (next-hits _ k (sym e)))
    ];
    not_both = λ i k d e. elim (ℕ_discrete i k) [
      | yes q ↦
          let a = hit-is (f i) (f i) refl in
          let b = hit-is (x i) (f i) (ap x q ∙ sym e) in
          omega (arith, once (f i) d (l.first_in i d).1, sum_one (hits_at f x (f i)) n i (first-inside i d))
      | no a ↦ clash (f i) i k d (l.first_in i d).1 a (first-inside i d) (next-inside k (λ z. d (e ∙ z))) (first-hits _ i refl) (next-hits _ k (sym e))
    ];
  }

  pub linked_of : Linked f x n
  linked_of = record { links = l; forest = forest-of }

-- ---- along a chain
-- how far it can still go from j: 0 at its end, and less after each record
abbrev pub left : ℕ → ℕ → ℕ
left n j = cond (eqb j 0) 0 (n - j)

pub left-falls : (n j m : ℕ) → j ≢ 0 → j < n → (m ≢ 0 → j < m) → left n m < left n j
left-falls n j m d h up = elim (ℕ_discrete m 0) [
  | yes e ↦ rw (eq-eqb m 0 e, ne_eqb j 0 d) (omega arith)
  | no a ↦ rw (ne_eqb m 0 a, ne_eqb j 0 d) (omega (arith, up a))
]

module _ {f x : ℕ → ℕ} {n : ℕ} (l : Linked f x n) where
  pub node_at : (j : ℕ) → j ≢ 0 → j < n → whole f x n j ≡ node j (whole f x n (f j)) (whole f x n (x j))
  node_at j d h = whole-node f x l.forest n (λ i e. (l.links.first_in i e).1) (λ i e. (l.links.next_in i e).1) j d h

  pub along-cons : (k : ℕ → ℕ) (j : ℕ) → j ≢ 0 → j < n → along k f x n j ≡ k j ∷ along k f x n (x j)
  unfolding spine
  along-cons k j d h = rw (node_at j d h)

  pub depth-cons : (k : ℕ → ℕ) (j : ℕ) → j ≢ 0 → j < n → depth_at k f x n j ≡ max (cond (is_node (k j)) (suc (depth_at k f x n (f j))) 0) (depth_at k f x n (x j))
  unfolding depth
  depth-cons k j d h = rw (node_at j d h)

pub along-nil : (k f x : ℕ → ℕ) (n : ℕ) → along k f x n 0 ≡ []
unfolding spine
along-nil k f x n = rw (whole-nil f x n)

pub depth-nil : (k f x : ℕ → ℕ) (n : ℕ) → depth_at k f x n 0 ≡ 0
unfolding depth
depth-nil k f x n = rw (whole-nil f x n)

-- ---- what a chain holds: each member is allowed, and they are as many as it counts
pub holds-both : (c : Chain) (ks : List ℕ) → holds c ks ≡ (every (allows c) ks && counts c (length ks))
unfolding holds allows counts every
holds-both empty [] = refl
holds-both empty (k ∷ ks) = eqb-suc-zero (length ks)
holds-both (values n) ks = and_comm (eqb (length ks) n) (every is_value ks)
holds-both nodes ks = sym (and-true (every is_node ks))
holds-both modes ks = sym (and-true (every (λ k. eqb k 51) ks))
holds-both steps ks = sym (and-true (every (λ k. eqb k 52) ks))

-- THE INVARIANT of a loop along a chain from start on, now at j: what is counted so far with what is left makes the whole
pub record Walked (p : ℕ → Bool) (k f x : ℕ → ℕ) (n start : ℕ) (a : Bool) (c j : ℕ) : Type 0 where
  pub inside : j < n
  pub room : c + left n j ≤ n
  pub all_is : every p (along k f x n start) ≡ (a && every p (along k f x n j))
  pub count_is : length (along k f x n start) ≡ c + length (along k f x n j)

pub walk_start : (p : ℕ → Bool) (k f x : ℕ → ℕ) (n start : ℕ) → start < n → Walked p k f x n start true 0 start
walk_start p k f x n start h = record { inside = h; room = elim (ℕ_discrete start 0) [ yes e ↦ rw (eq-eqb start 0 e) (omega arith) | no d ↦ rw (ne_eqb start 0 d) (omega arith) ]; all_is = refl; count_is = omega arith }

module _ {f x : ℕ → ℕ} {n : ℕ} (l : Linked f x n) {p : ℕ → Bool} {k : ℕ → ℕ} {start : ℕ} {a : Bool} {c : ℕ} where
  pub walk_turn : {j : ℕ} → Walked p k f x n start a c j → j ≢ 0 → {b : Bool} → b ≡ p (k j) → Walked p k f x n start (a && b) (c + 1) (x j)
  unfolding every
  walk_turn {j} w d {b} e =
      let h = w.inside in
      let q = along-cons l k j d h in
      record {
        inside = next-below l.links (omega arith) j;
        room = omega (arith, w.room, left-falls n j (x j) d h (λ g. (l.links.next_in j g).0));
        all_is = w.all_is ∙ ap (λ (ks : List ℕ). a && every p ks) q ∙ ap (λ (t : Bool). a && (t && every p (along k f x n (x j)))) (sym e) ∙ and_assoc a b _;
        count_is = omega (arith, w.count_is, ap length q);
      }

  pub walk-all : {j : ℕ} → Walked p k f x n start a c j → j ≡ 0 → a ≡ every p (along k f x n start)
  unfolding every
  walk-all w e = sym (w.all_is ∙ ap (λ (i : ℕ). a && every p (along k f x n i)) e ∙ ap (λ (ks : List ℕ). a && every p ks) (along-nil k f x n) ∙ and-true a)

  pub walk-count : {j : ℕ} → Walked p k f x n start a c j → j ≡ 0 → c ≡ length (along k f x n start)
  walk-count {j} w e = omega (arith, w.count_is, ap (λ (i : ℕ). length (along k f x n i)) e, ap length (along-nil k f x n))

-- a member that is not so ends it
pub walk-stop : {f x : ℕ → ℕ} {n : ℕ} → Linked f x n → {p : ℕ → Bool} {k : ℕ → ℕ} {start c j : ℕ} → Walked p k f x n start true c j → j ≢ 0 → p (k j) ≡ false → false ≡ every p (along k f x n start)
unfolding every
walk-stop {f} {x} {n} l {p} {k} {j = j} w d e = sym (w.all_is ∙ ap (every p) (along-cons l k j d w.inside) ∙ ap (λ (t : Bool). t && every p (along k f x n (x j))) e)

-- ---- how deep a chain goes: a member that is within the room leaves it to those after it, and one that is not decides
within : (r a b : ℕ) → a ≤ r → ltb r (max a b) ≡ ltb r b
within r a b h = elim (dec_lt r b) [
  | yes g ↦ lt-ltb r (max a b) (omega arith) ∙ sym (lt-ltb r b g)
  | no g ↦ le-ltb r (max a b) (omega arith) ∙ sym (le-ltb r b (omega arith))
]

module _ {f x : ℕ → ℕ} {n : ℕ} (l : Linked f x n) (k : ℕ → ℕ) (r j : ℕ) (d : j ≢ 0) (h : j < n) where
  deep-rest : cond (is_node (k j)) (suc (depth_at k f x n (f j))) 0 ≤ r → ltb r (depth_at k f x n j) ≡ ltb r (depth_at k f x n (x j))
  deep-rest g = ap (ltb r) (depth-cons l k j d h) ∙ within r _ _ g

  -- no node
  pub deep-leaf : is_node (k j) ≡ false → ltb r (depth_at k f x n j) ≡ ltb r (depth_at k f x n (x j))
  deep-leaf e = deep-rest (rw e (omega arith))

  -- a node whose own chain is within the room that it leaves
  pub deep-within : r ≢ 0 → ltb (r - 1) (depth_at k f x n (f j)) ≡ false → ltb r (depth_at k f x n j) ≡ ltb r (depth_at k f x n (x j))
  deep-within e g = deep-rest (go (is_node (k j)) (depth_at k f x n (f j)) (ltb-false (r - 1) _ g))
    where
      go : (b : Bool) (m : ℕ) → m ≤ r - 1 → cond b (suc m) 0 ≤ r
      go true m q = omega (arith, e)
      go false m q = omega arith

  -- a node with no room, and one whose own chain is over the room that it leaves
  deep-over : is_node (k j) ≡ true → r < suc (depth_at k f x n (f j)) → ltb r (depth_at k f x n j) ≡ true
  deep-over e g = lt-ltb r _ (omega (arith, depth-cons l k j d h, ap (λ (b : Bool). cond b (suc (depth_at k f x n (f j))) 0) e))

  pub deep-here : is_node (k j) ≡ true → r ≡ 0 → ltb r (depth_at k f x n j) ≡ true
  deep-here e g = deep-over e (omega arith)

  pub deep-below : is_node (k j) ≡ true → ltb (r - 1) (depth_at k f x n (f j)) ≡ true → ltb r (depth_at k f x n j) ≡ true
  deep-below e g = deep-over e (omega (arith, ltb-true (r - 1) _ g))

-- nodes nest no deeper than there are records above 0
build-depth : (p : ℕ → Bool) (f x : ℕ → ℕ) (n i : ℕ) → depth p (build f x n i) ≤ n
unfolding depth
build-depth p f x zero i = omega arith
build-depth p f x (suc n) zero = omega arith
build-depth p f x (suc n) (suc i) =
    let a = build-depth p f x n (f (suc i)) in
    let b = build-depth p f x n (x (suc i)) in
    elim (p (suc i)) as (λ t. max (cond t (suc (depth p (build f x n (f (suc i))))) 0) (depth p (build f x n (x (suc i)))) ≤ suc n) [ true ↦ omega arith | false ↦ omega arith ]

pub depth_most : (k f x : ℕ → ℕ) (n j : ℕ) → depth_at k f x n j ≤ n - 1
unfolding whole
depth_most k f x n zero = omega (arith, depth-nil k f x n)
depth_most k f x n (suc j) = omega (arith, build-depth (λ i. is_node (k i)) f x (n - suc j) (suc j))

-- nor deeper than there are nodes: those above a record are nodes of a lower index
sum-up : (g : ℕ → ℕ) (i n : ℕ) → i ≤ n → sum g i ≤ sum g n
unfolding sum
sum-up g i zero h = let e : i ≡ 0 = omega arith in rw e (omega arith)
sum-up g i (suc n) h = elim (ℕ_discrete i (suc n)) [ yes e ↦ rw e (omega arith) | no d ↦ omega (arith, sum-up g i n (omega arith)) ]

module _ {f x : ℕ → ℕ} {n : ℕ} (l : Linked f x n) (k : ℕ → ℕ) where
  nodes-above : (m j : ℕ) → n ≤ j + m → j < n → j ≢ 0 → depth_at k f x n j + sum (nodes_at k) j ≤ sum (nodes_at k) n
  nodes-above zero j h g d = let z : ⊥ = omega arith in absurd z
  nodes-above (suc m) j h g d =
      let higher = below (λ i q r e. nodes-above m i (omega arith) r e) in
      go (is_node (k j)) _ _ _ _ _ _ (depth-cons l k j d g) (sum-suc (nodes_at k) j) (higher (f j) (l.links.first_in j)) (higher (x j) (l.links.next_in j))
    where
      below : ((i : ℕ) → j < i → i < n → i ≢ 0 → depth_at k f x n i + sum (nodes_at k) i ≤ sum (nodes_at k) n)
          → (i : ℕ) → (i ≢ 0 → (j < i) × (i < n)) → depth_at k f x n i + sum (nodes_at k) (j + 1) ≤ sum (nodes_at k) n
      below r i p = elim (ℕ_discrete i 0) [
        | yes e ↦ rw e (omega (arith, depth-nil k f x n, sum-up (nodes_at k) (j + 1) n (omega arith)))
        | no q ↦
            let c = p q in
            omega (arith, r i c.0 c.1 q, sum-up (nodes_at k) (j + 1) i (omega (arith, c.0)))
      ]

      go : (t : Bool) (D F X S S₁ N : ℕ) → D ≡ max (cond t (suc F) 0) X → S₁ ≡ S + cond t 1 0 → F + S₁ ≤ N → X + S₁ ≤ N → D + S ≤ N
      go true D F X S S₁ N p q a b = omega arith
      go false D F X S S₁ N p q a b = omega arith

  pub depth-nodes : (j : ℕ) → j < n → depth_at k f x n j ≤ sum (nodes_at k) n
  depth-nodes j h = elim (ℕ_discrete j 0) [
    | yes e ↦ rw e (omega (arith, depth-nil k f x n))
    | no d ↦ omega (arith, nodes-above n j (omega arith) h d)
  ]

-- record 0 is a node that no other follows
pub root-depth : {f x : ℕ → ℕ} {n : ℕ} → Links f x n → (k : ℕ → ℕ) → is_node (k 0) ≡ true → leb (depth (λ i. is_node (k i)) (root f x n)) 16 ≡ not (ltb 15 (depth_at k f x n (f 0)))
unfolding root depth
root-depth {f} {x} {n} l k e =
    let a = depth_at k f x n (f 0) in
    let z : depth_at k f x n (x 0) ≡ 0 = ap (depth_at k f x n) l.root_next ∙ depth-nil k f x n in
    ap (λ (b : Bool). leb (max (cond b (suc a) 0) (depth_at k f x n (x 0))) 16) e ∙ go a (depth_at k f x n (x 0)) z
  where
    go : (a b : ℕ) → b ≡ 0 → leb (max (suc a) b) 16 ≡ not (ltb 15 a)
    go a b e = elim (dec_lt 15 a) [
      | yes g ↦ lt-leb (max (suc a) b) 16 (omega arith) ∙ sym (ap not (lt-ltb 15 a g))
      | no g ↦ le-leb (max (suc a) b) 16 (omega arith) ∙ sym (ap not (le-ltb 15 a (omega arith)))
    ]

-- ---- the answer of checks 5 to 7, by the tests that lead to it
module _ (k f x : ℕ → ℕ) (n : ℕ) where
  pub shape-five : all (once_at f x n) n ≡ false → 5 ≡ shape_of k f x n
  unfolding shape_of lowest
  shape-five a = rw a

  pub shape-six : all (once_at f x n) n ≡ true → (all (chain_at k f x n) n && is_node (k 0)) ≡ false → 6 ≡ shape_of k f x n
  unfolding shape_of lowest
  shape-six a b = rw (a, b)

  shape-last : Links f x n → all (once_at f x n) n ≡ true → (all (chain_at k f x n) n && is_node (k 0)) ≡ true → cond (ltb 15 (depth_at k f x n (f 0))) 7 0 ≡ shape_of k f x n
  unfolding shape_of lowest
  shape-last l a b = rw (a, b, root-depth l k (both _ (is_node (k 0)) b).1) (go (ltb 15 (depth_at k f x n (f 0))))
    where
      go : (d : Bool) → ◌≡◌ {A = ℕ} (cond d 7 0) (cond (not d) 0 7)
      go true = refl
      go false = refl

  pub shape-seven : Links f x n → all (once_at f x n) n ≡ true → (all (chain_at k f x n) n && is_node (k 0)) ≡ true → ltb 15 (depth_at k f x n (f 0)) ≡ true → 7 ≡ shape_of k f x n
  shape-seven l a b d = rw d at (shape-last l a b)

  pub shape-none : Links f x n → all (once_at f x n) n ≡ true → (all (chain_at k f x n) n && is_node (k 0)) ≡ true → ltb 15 (depth_at k f x n (f 0)) ≡ false → 0 ≡ shape_of k f x n
  shape-none l a b d = rw d at (shape-last l a b)
