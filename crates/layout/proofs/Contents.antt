-- What check 6 says of the chains of an accepted sheet, link by link, and of those that are built.
use Rattle.std.specs.Prelude.{◌≡◌, refl, Bool, false, ◌&&◌, ◌≢◌, ℕ, suc, ◌<◌, ltb, length}
use Rattle.std.proofs.Common.{sym, ◌∙◌, arith}
use Rattle.std.proofs.Math.Path.{ap}
use Rattle.std.proofs.Math.Bool.{true}
use mathlib.Core.List.{List, [], ◌∷◌, map}
use Rattle.std.proofs.Math.Decide.{ℕ_discrete}
use borrow.Author.Tests.{eqb-true, ltb-true, ne_eqb}
use Rattle.std.proofs.Math.Dec.{eqb}
use Rattle.sheet.specs.Bytes.{u16_at}
use Rattle.sheet.specs.Record.{count_of, option_of, record_at, kind, first, next}
use Rattle.sheet.specs.Kinds.{Chain, empty, values, nodes, row_of, lookup, is_node, is_value, is_fold}
use Rattle.sheet.specs.Tree.{spine}
use Rattle.sheet.specs.Checks.{every, holds, chain_ok, record_ok}
use Rattle.layout.specs.Built.{owner, role, is_played, begin, after}
use Rattle.layout.specs.declared.Role.TheVariants.{Built}
use Rattle.layout.specs.Good.{Good, and_left, and_right}
use Rattle.layout.specs.Owners.{owner-first, owner-next, records-none, records-some, reached}
use Rattle.layout.proofs.Roles.{begin-built, begin-other, after_next, leaf-built}
use Rattle.layout.specs.Contents.{kinds_from}

-- a kind whose chain does not hold nodes is no Mix, Mul or Chain
pub no-nodes : (k : ℕ) → (row_of k).chain ≢ nodes → (is_fold k ≡ false) × (k ≢ 13)
unfolding lookup
no-nodes k d =
    let a : k ≢ 11 = λ e. d (ap (λ k. (row_of k).chain) e) in
    let b : k ≢ 12 = λ e. d (ap (λ k. (row_of k).chain) e) in
    (rw (ne_eqb k 11 a, ne_eqb k 12 b), λ e. d (ap (λ k. (row_of k).chain) e))

values-nodes : (c : Chain) (n : ℕ) → c ≡ values n → c ≢ nodes
values-nodes c n e f = let z : ◌≡◌ {A = ℕ} 0 1 = cc in omega arith

empty-nodes : (c : Chain) → c ≡ empty → c ≢ nodes
empty-nodes c e f = let z : ◌≡◌ {A = ℕ} 0 1 = cc in omega arith

module _ (s : List ℕ) (g : Good s) where
  pub kinds-none : kinds_from s 0 ≡ []
  unfolding spine
  kinds-none = rw (records-none s g)

  pub kinds-some : (j : ℕ) → j ≢ 0 → j < count_of s → kinds_from s j ≡ kind s j ∷ kinds_from s (next s j)
  unfolding spine
  kinds-some j d h = ap (λ t. map (kind s) (spine t)) (records-some s g j d h)

  pub option-in : (i : ℕ) → i < count_of s → option_of (record_at s i) < (row_of (kind s i)).options
  unfolding record_ok
  option-in i h = ltb-true (option_of (record_at s i)) (row_of (kind s i)).options (and_left (ltb (option_of (record_at s i)) (row_of (kind s i)).options) (eqb (u16_at (record_at s i) 6) 0)
      (and_left (ltb (option_of (record_at s i)) (row_of (kind s i)).options && eqb (u16_at (record_at s i) 6) 0) _ (g.known i h)))

  -- ---- chains of a given number
  kinds-end : (j : ℕ) → (j ≢ 0 → j < count_of s) → length (kinds_from s j) ≡ 0 → j ≡ 0
  kinds-end j h e = elim (ℕ_discrete j 0) [
    | yes z ↦ z
    | no d ↦ absurd (omega (arith, ap length (kinds-some j d (h d))))
  ]

  kinds-more : (j n : ℕ) → (j ≢ 0 → j < count_of s) → length (kinds_from s j) ≡ suc n → (j ≢ 0) × (length (kinds_from s (next s j)) ≡ n)
  kinds-more j n h e = elim (ℕ_discrete j 0) [
    | yes z ↦ absurd (omega (arith, ap length (ap (kinds_from s) z ∙ kinds-none)))
    | no d ↦ (d, omega (arith, ap length (kinds-some j d (h d))))
  ]

  holds_at : (i : ℕ) → i < count_of s → (c : Chain) → (row_of (kind s i)).chain ≡ c → holds c (kinds_from s (first s i)) ≡ true
  unfolding chain_ok
  holds_at i h c e = rw e at (g.chains i h)

  pub no-chain : (i : ℕ) → i < count_of s → (row_of (kind s i)).chain ≡ empty → first s i ≡ 0
  unfolding holds
  no-chain i h e = kinds-end (first s i) (g.first_in i) (eqb-true (length (kinds_from s (first s i))) 0 (holds_at i h empty e))

  value-length : (i n : ℕ) → i < count_of s → (row_of (kind s i)).chain ≡ values n → length (kinds_from s (first s i)) ≡ n
  unfolding holds
  value-length i n h e = eqb-true (length (kinds_from s (first s i))) n (and_left (eqb (length (kinds_from s (first s i))) n) (every is_value (kinds_from s (first s i))) (holds_at i h (values n) e))

  -- ---- chains of a given kind of records
  every-at : (p : ℕ → Bool) (j : ℕ) → j ≢ 0 → j < count_of s → every p (kinds_from s j) ≡ true → (p (kind s j) ≡ true) × (every p (kinds_from s (next s j)) ≡ true)
  unfolding every
  every-at p j d h e =
      let q : p (kind s j) && every p (kinds_from s (next s j)) ≡ true = ap (every p) (sym (kinds-some j d h)) ∙ e in
      (and_left (p (kind s j)) (every p (kinds_from s (next s j))) q, and_right (p (kind s j)) (every p (kinds_from s (next s j))) q)

  every-from : (p : ℕ → Bool) (j : ℕ) → j ≢ 0 → j < count_of s → every p (kinds_from s (first s (owner s j))) ≡ true → every p (kinds_from s j) ≡ true
  every-from p j d h = reached s g (λ j. every p (kinds_from s (first s (owner s j))) ≡ true → every p (kinds_from s j) ≡ true)
      (λ i j e d q. ap (λ k. every p (kinds_from s k)) (sym e ∙ ap (first s) (sym (owner-first s g i j e d))) ∙ q)
      (λ i j e z d f q. let l : i < count_of s = omega (arith, g.forest.next_up i (λ y. d (sym e ∙ y)), g.next_in i (λ y. d (sym e ∙ y))) in
      ap (λ k. every p (kinds_from s k)) (sym e) ∙ (every-at p i z l (f (ap (λ k. every p (kinds_from s (first s k))) (sym (owner-next s g i j e d)) ∙ q))).1)
      j d h

  chain-every : (p : ℕ → Bool) (i j : ℕ) → j ≢ 0 → j < count_of s → owner s j ≡ i → every p (kinds_from s (first s i)) ≡ true → p (kind s j) ≡ true
  chain-every p i j d h o e = (every-at p j d h (every-from p j d h (ap (λ k. every p (kinds_from s (first s k))) o ∙ e))).0

  -- a record of a chain is of the kinds that the chain's owner takes
  pub in-nodes : (i j : ℕ) → i < count_of s → (row_of (kind s i)).chain ≡ nodes → j ≢ 0 → j < count_of s → owner s j ≡ i → is_node (kind s j) ≡ true
  unfolding holds
  in-nodes i j l e d h o = chain-every is_node i j d h o (holds_at i l nodes e)

  pub in-values : (i j n : ℕ) → i < count_of s → (row_of (kind s i)).chain ≡ values n → j ≢ 0 → j < count_of s → owner s j ≡ i → is_value (kind s j) ≡ true
  unfolding holds
  in-values i j n l e d h o = chain-every is_value i j d h o (and_right (eqb (length (kinds_from s (first s i))) n) (every is_value (kinds_from s (first s i))) (holds_at i l (values n) e))

  -- ---- a built record's values: built too, in order, and no more than it takes
  pub record Value (i j : ℕ) : Type 0 where
    pub some : j ≢ 0
    pub in_sheet : j < count_of s
    pub of : owner s j ≡ i
    pub value : is_value (kind s j) ≡ true
    pub made : role s j ≡ Built

  value-first : (i n : ℕ) → i < count_of s → role s i ≡ Built → (row_of (kind s i)).chain ≡ values (suc n) → Value i (begin s i) × (length (kinds_from s (next s (begin s i))) ≡ n)
  value-first i n h r e =
      let k = no-nodes (kind s i) (values-nodes _ (suc n) e) in
      let b = begin-other s i r k.1 in
      let m = kinds-more (first s i) n (g.first_in i) (value-length i (suc n) h e) in
      let o = owner-first s g i (first s i) refl m.0 in
      rw b (
        record {
          some = m.0;
          in_sheet = g.first_in i m.0;
          of = o;
          value = in-values i (first s i) (suc n) h e m.0 (g.first_in i m.0) o;
          made = leaf-built s g (first s i) m.0 (g.first_in i m.0) (rw o r) (rw o k.0) (rw o k.1);
        },
        m.1,
      )

  value-next : (i j n c : ℕ) → i < count_of s → role s i ≡ Built → (row_of (kind s i)).chain ≡ values c → Value i j → length (kinds_from s (next s j)) ≡ suc n
      → Value i (after s j) × (length (kinds_from s (next s (after s j))) ≡ n)
  value-next i j n c h r e v l =
      let k = no-nodes (kind s i) (values-nodes _ c e) in
      let a = after_next s j (ap is_played v.made) in
      let m = kinds-more (next s j) n (g.next_in j) l in
      let o = owner-next s g j (next s j) refl m.0 ∙ v.of in
      rw a (
        record {
          some = m.0;
          in_sheet = g.next_in j m.0;
          of = o;
          value = in-values i (next s j) c h e m.0 (g.next_in j m.0) o;
          made = leaf-built s g (next s j) m.0 (g.next_in j m.0) (rw o r) (rw o k.0) (rw o k.1);
        },
        m.1,
      )

  value-last : (i j : ℕ) → Value i j → length (kinds_from s (next s j)) ≡ 0 → after s j ≡ 0
  value-last i j v l = after_next s j (ap is_played v.made) ∙ kinds-end (next s j) (g.next_in j) l

  pub one_value : (i : ℕ) → i < count_of s → role s i ≡ Built → (row_of (kind s i)).chain ≡ values 1 → Value i (begin s i) × (after s (begin s i) ≡ 0)
  one_value i h r e = let a = value-first i 0 h r e in (a.0, value-last i (begin s i) a.0 a.1)

  pub two-values : (i : ℕ) → i < count_of s → role s i ≡ Built → (row_of (kind s i)).chain ≡ values 2
      → Value i (begin s i) × Value i (after s (begin s i)) × (after s (after s (begin s i)) ≡ 0)
  two-values i h r e =
      let a = value-first i 1 h r e in
      let b = value-next i (begin s i) 0 2 h r e a.0 a.1 in
      (a.0, b.0, value-last i (after s (begin s i)) b.0 b.1)

  pub no-links : (i : ℕ) → i < count_of s → (row_of (kind s i)).chain ≡ empty → begin s i ≡ 0
  no-links i h e = elim (ℕ_discrete (begin s i) 0) [
    | yes z ↦ z
    | no d ↦ begin-other s i (begin-built s i d) (no-nodes (kind s i) (empty-nodes _ e)).1 ∙ no-chain i h e
  ]
