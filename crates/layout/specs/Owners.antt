-- The links of an accepted sheet: the one that leads to a record, and the record in whose chain it stands.
use Rattle.std.specs.Prelude.{◌≡◌, Bool, true, false, cond, ◌||◌, List, ◌≢◌, ◌⊎◌, eqb}
use Rattle.std.proofs.Math.Path.{refl, ap}
use Rattle.std.proofs.Common.{sym, ◌∙◌, subst, arith, eqb-true, eq-eqb, ne_eqb}
use Rattle.std.proofs.Math.Logic.{inl, inr}
use Prim.Native.Nat.{ℕ, zero, suc, ◌+◌, ◌-◌, ◌≤◌, ◌<◌}
use Rattle.std.proofs.Math.Decide.{ℕ_discrete}
use Rattle.std.proofs.lemmas.Bool.{eqb-false}
use Rattle.std.proofs.Math.Dec.{eqb-zero-suc}
use Rattle.tree.specs.Tree.{nil, node}
use Rattle.tree.specs.Forest.{whole-nil, whole-node}
use Rattle.sheet.specs.Record.{count_of, first, next}
use Rattle.sheet.specs.Tree.{records}
use Rattle.sheet.specs.Checks.{links_to}
use Rattle.sheet.specs.Links.{hits_at}
use Rattle.sheet.specs.Laws.{sum-none}
use Rattle.sheet.specs.LinkLaws.{hit-not}
use Rattle.layout.specs.Built.{find, linker, owner_by, owner}
use Rattle.layout.specs.Good.{Good, false-true}

-- ---- the lowest index of which p holds
find-le : (p : ℕ → Bool) (n : ℕ) → find p n ≤ n
unfolding find
find-le p zero = omega arith
find-le p (suc n) = go (eqb (find p n) n) (p n) (find-le p n)
  where
    go : (a b : Bool) {r n : ℕ} → r ≤ n → cond a (cond b n (suc n)) r ≤ suc n
    go true true h = omega arith
    go true false h = omega arith
    go false b h = omega arith

find-is : (p : ℕ → Bool) (n : ℕ) → find p n < n → p (find p n) ≡ true
unfolding find
find-is p zero h = let x : ⊥ = omega arith in absurd x
find-is p (suc n) h = go (find-is p n) (eqb (find p n) n) refl (p n) refl h
  where
    go : (find p n < n → p (find p n) ≡ true) → (a : Bool) → eqb (find p n) n ≡ a → (b : Bool) → p n ≡ b → cond a (cond b n (suc n)) (find p n) < suc n → p (cond a (cond b n (suc n)) (find p n)) ≡ true
    go f true q true e h = e
    go f true q false e h = let x : ⊥ = omega arith in absurd x
    go f false q b e h = f (omega (arith, find-le p n, eqb-false (find p n) n q))

find-found : (p : ℕ → Bool) (n i : ℕ) → i < n → p i ≡ true → find p n < n
unfolding find
find-found p zero i h e = let x : ⊥ = omega arith in absurd x
find-found p (suc n) i h e = go (λ l. find-found p n i l e) (eqb (find p n) n) refl (p n) refl
  where
    go : (i < n → find p n < n) → (a : Bool) → eqb (find p n) n ≡ a → (b : Bool) → p n ≡ b → cond a (cond b n (suc n)) (find p n) < suc n
    go r true q true f = omega arith
    go r true q false f = elim (ℕ_discrete i n) [
      | yes z ↦ absurd (false-true (sym f ∙ ap p (sym z) ∙ e))
      | no z ↦ absurd (omega (arith, r (omega arith), eqb-true (find p n) n q))
    ]
    go r false q b f = omega (arith, find-le p n)

-- p holds of no index below its result
find_first : (p : ℕ → Bool) (n : ℕ) → find p n ≡ n → (i : ℕ) → i < n → p i ≡ true → ⊥
find_first p n q i h e = omega (arith, find-found p n i h e)

find-zero : (p : ℕ → Bool) (n : ℕ) → p 0 ≡ true → find p (suc n) ≡ 0
unfolding find
find-zero p zero e = rw e
find-zero p (suc n) e = rw (find-zero p n e, eqb-zero-suc)

same : (b : Bool) → ◌≡◌ {A = ℕ} (cond b 0 0) 0
same true = refl
same false = refl

or_split : (a b : Bool) → a || b ≡ true → (a ≡ true) ⊎ (b ≡ true)
or_split true b e = inl refl
or_split false b e = inr e

or_left : (a b : Bool) → a ≡ true → a || b ≡ true
or_left a b e = rw e

or_right : (a b : Bool) → b ≡ true → a || b ≡ true
or_right true b e = refl
or_right false b e = e

abbrev leads : List ℕ → ℕ → ℕ → Bool
leads s j i = eqb (first s i) j || eqb (next s i) j

leads-not : (s : List ℕ) (j i : ℕ) → (leads s j i ≡ true → ⊥) → hits_at (first s) (next s) j i ≡ 0
leads-not s j i d = omega (
  arith,
  hit-not (first s i) j (λ e. d (or_left (eqb (first s i) j) (eqb (next s i) j) (eq-eqb (first s i) j e))),
  hit-not (next s i) j (λ e. d (or_right (eqb (first s i) j) (eqb (next s i) j) (eq-eqb (next s i) j e))),
)

owner-step : (s : List ℕ) (n m j : ℕ) → owner_by s n (linker s j) ≡ owner_by s m (linker s j) → owner_by s (suc n) j ≡ owner_by s (suc m) j
unfolding owner_by
owner-step s n m j e = ap (cond (eqb (first s (linker s j)) j) (linker s j)) e

module _ (s : List ℕ) (g : Good s) where
  -- ---- the linker of j is the one record with a link to j
  pub linker-in : (j : ℕ) → j ≢ 0 → j < count_of s → linker s j < count_of s
  unfolding linker links_to
  linker-in j d h = elim (ℕ_discrete (find (leads s j) (count_of s)) (count_of s)) [
    | yes q ↦ absurd (omega (arith, g.once j d h, sum-none (hits_at (first s) (next s) j) (count_of s) (λ i l. leads-not s j i (find_first (leads s j) (count_of s) q i l))))
    | no q ↦ omega (arith, find-le (leads s j) (count_of s))
  ]

  pub linker-links : (j : ℕ) → j ≢ 0 → j < count_of s → (first s (linker s j) ≡ j) ⊎ (next s (linker s j) ≡ j)
  unfolding linker
  linker-links j d h = elim (or_split (eqb (first s i) j) (eqb (next s i) j) (find-is (leads s j) (count_of s) (linker-in j d h))) [
    | inl e ↦ inl (eqb-true (first s i) j e)
    | inr e ↦ inr (eqb-true (next s i) j e)
  ]
    where
      i : ℕ
      i = find (leads s j) (count_of s)

  pub linker-below : (j : ℕ) → j ≢ 0 → j < count_of s → linker s j < j
  linker-below j d h = elim (linker-links j d h) [
    | inl e ↦ omega (arith, g.forest.first_up (linker s j) (λ z. d (sym e ∙ z)))
    | inr e ↦ omega (arith, g.forest.next_up (linker s j) (λ z. d (sym e ∙ z)))
  ]

  pub first-inside : (i : ℕ) → first s i ≢ 0 → i < count_of s
  first-inside i d = omega (arith, g.forest.first_up i d, g.first_in i d)

  pub next-inside : (i : ℕ) → next s i ≢ 0 → i < count_of s
  next-inside i d = omega (arith, g.forest.next_up i d, g.next_in i d)

  pub linker-first : (i j : ℕ) → first s i ≡ j → j ≢ 0 → linker s j ≡ i
  linker-first i j e d =
      let n : first s i ≢ 0 = λ z. d (sym e ∙ z) in
      let h : j < count_of s = omega (arith, g.first_in i n) in
      elim (linker-links j d h) [
        | inl q ↦ sym (g.forest.first_one i (linker s j) n (e ∙ sym q))
        | inr q ↦ absurd (g.forest.not_both i (linker s j) n (e ∙ sym q))
      ]

  pub linker-next : (i j : ℕ) → next s i ≡ j → j ≢ 0 → linker s j ≡ i
  linker-next i j e d =
      let n : next s i ≢ 0 = λ z. d (sym e ∙ z) in
      let h : j < count_of s = omega (arith, g.next_in i n) in
      elim (linker-links j d h) [
        | inl q ↦ absurd (g.forest.not_both (linker s j) i (λ z. d (sym q ∙ z)) (q ∙ sym e))
        | inr q ↦ sym (g.forest.next_one i (linker s j) n (e ∙ sym q))
      ]

  -- ---- the owner: fuel plays no part
  root-linker : linker s 0 ≡ 0
  unfolding linker
  root-linker =
      let e : count_of s ≡ suc (count_of s - 1) = omega (arith, g.some) in
      ap (find (leads s 0)) e ∙ find-zero (leads s 0) (count_of s - 1) (or_right (eqb (first s 0) 0) (eqb (next s 0) 0) (eq-eqb (next s 0) 0 g.alone))

  root-owner : (n : ℕ) → owner_by s n 0 ≡ 0
  unfolding owner_by
  root-owner zero = refl
  root-owner (suc n) = rw (root-linker, root-owner n) (same (eqb (first s 0) 0))

  none-owner : (n j : ℕ) → j ≡ 0 → owner_by s n j ≡ 0
  none-owner n j e = ap (owner_by s n) e ∙ root-owner n

  owner-enough : (n m j : ℕ) → j < count_of s → j ≤ n → j ≤ m → owner_by s n j ≡ owner_by s m j
  owner-enough zero m j h p q = none-owner 0 j (omega arith) ∙ sym (none-owner m j (omega arith))
  owner-enough (suc n) zero j h p q = none-owner (suc n) j (omega arith) ∙ sym (none-owner 0 j (omega arith))
  owner-enough (suc n) (suc m) j h p q = elim (ℕ_discrete j 0) [
    | yes e ↦ none-owner (suc n) j e ∙ sym (none-owner (suc m) j e)
    | no d ↦ let b = linker-below j d h in owner-step s n m j (owner-enough n m (linker s j) (omega arith) (omega arith) (omega arith))
  ]

  pub owner-root : owner s 0 ≡ 0
  unfolding owner
  owner-root = root-owner 0

  owner-by : (j : ℕ) → j ≢ 0 → j < count_of s → owner s j ≡ cond (eqb (first s (linker s j)) j) (linker s j) (owner s (linker s j))
  unfolding owner owner_by
  owner-by zero d h = absurd (d refl)
  owner-by (suc j) d h = ap (cond (eqb (first s (linker s (suc j))) (suc j)) (linker s (suc j)))
      (owner-enough j (linker s (suc j)) (linker s (suc j)) (omega (arith, b)) (omega (arith, b)) (omega arith))
    where
      b : linker s (suc j) < suc j
      b = linker-below (suc j) d h

  -- the laws of owners: a chain is its owner's
  pub owner-first : (i j : ℕ) → first s i ≡ j → j ≢ 0 → owner s j ≡ i
  owner-first i j e d =
      let h : j < count_of s = omega (arith, g.first_in i (λ z. d (sym e ∙ z))) in
      rw (owner-by j d h, linker-first i j e d, eq-eqb (first s i) j e)

  pub owner-next : (i j : ℕ) → next s i ≡ j → j ≢ 0 → owner s j ≡ owner s i
  owner-next i j e d =
      let h : j < count_of s = omega (arith, g.next_in i (λ z. d (sym e ∙ z))) in
      rw (owner-by j d h, linker-next i j e d, ne_eqb (first s i) j (λ q. g.forest.not_both i i (λ z. d (sym q ∙ z)) (q ∙ sym e)))

  owner-up : (n j : ℕ) → j ≤ n → j ≢ 0 → j < count_of s → owner s j < j
  owner-up zero j l d h = absurd (d (omega arith))
  owner-up (suc n) j l d h = elim (linker-links j d h) [
    | inl e ↦ omega (arith, owner-first (linker s j) j e d, linker-below j d h)
    | inr e ↦ elim (ℕ_discrete (linker s j) 0) [
      | yes z ↦ absurd (d (sym e ∙ ap (next s) z ∙ g.alone))
      | no z ↦ omega (arith, owner-next (linker s j) j e d, linker-below j d h, owner-up n (linker s j) (omega (arith, linker-below j d h)) z (linker-in j d h))
    ]
  ]

  pub owner-below : (j : ℕ) → j ≢ 0 → j < count_of s → owner s j < j
  owner-below j d h = owner-up j j (omega arith) d h

  -- ---- a chain is the record that it begins with, and the chain after that
  pub records-none : records s 0 ≡ nil
  records-none = whole-nil (first s) (next s) (count_of s)

  pub records-some : (i : ℕ) → i ≢ 0 → i < count_of s → records s i ≡ node i (records s (first s i)) (records s (next s i))
  records-some i d h = whole-node (first s) (next s) g.forest (count_of s) g.first_in g.next_in i d h

  -- what holds of no record, and of a record if it holds of the next, holds all along
  pub along : (P : ℕ → Type 0) → P 0 → ((i : ℕ) → i ≢ 0 → i < count_of s → P (next s i) → P i) → (i : ℕ) → i < count_of s → P i
  along P z turn i h = go (count_of s) i h (omega arith)
    where
      go : (n i : ℕ) → i < count_of s → count_of s ≤ n + i → P i
      go zero i h l = let x : ⊥ = omega arith in absurd x
      go (suc n) i h l = elim (ℕ_discrete i 0) [
        | yes q ↦ subst P (sym q) z
        | no d ↦ turn i d h (elim (ℕ_discrete (next s i) 0) [ yes e ↦ subst P (sym e) z | no f ↦ go n (next s i) (g.next_in i f) (omega (arith, g.forest.next_up i f)) ])
      ]

  -- what holds of a record that a first leads to, and of one that a next leads to if it holds of the one before, holds of all but 0
  pub reached : (P : ℕ → Type 0) → ((i j : ℕ) → first s i ≡ j → j ≢ 0 → P j) → ((i j : ℕ) → next s i ≡ j → i ≢ 0 → j ≢ 0 → P i → P j) → (j : ℕ) → j ≢ 0 → j < count_of s → P j
  reached P begins turn j d h = go j j (omega arith) d h
    where
      go : (n j : ℕ) → j ≤ n → j ≢ 0 → j < count_of s → P j
      go zero j l d h = absurd (d (omega arith))
      go (suc n) j l d h = elim (linker-links j d h) [
        | inl e ↦ begins (linker s j) j e d
        | inr e ↦ elim (ℕ_discrete (linker s j) 0) [
          | yes z ↦ absurd (d (sym e ∙ ap (next s) z ∙ g.alone))
          | no z ↦ turn (linker s j) j e z d (go n (linker s j) (omega (arith, linker-below j d h)) z (linker-in j d h))
        ]
      ]
