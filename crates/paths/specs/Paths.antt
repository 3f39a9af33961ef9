-- The laws of places and paths in an accepted sheet, and a turn of each loop that writes a table of them.
use Rattle.std.specs.Prelude.{◌≡◌, cond, List, ◌≢◌, eqb, length, get_or, set}
use Rattle.std.proofs.Math.Path.{refl, sym, ap}
use Rattle.std.proofs.Common.{◌∙◌, inl, inr, arith, eq-eqb, ne_eqb, length-set, get_or-set_same, get_or-set_other}
use Prim.Native.Nat.{ℕ, zero, suc, ◌+◌, ◌≤◌, ◌<◌}
use Rattle.std.proofs.Math.Decide.{ℕ_discrete}
use Rattle.rng.specs.Random.{path_of as child_path}
use Rattle.sheet.specs.Record.{count_of, path_of, first, next}
use Rattle.layout.specs.Built.{linker, owner}
use Rattle.layout.specs.Good.{Good, good}
use Rattle.layout.specs.Owners.{linker-in, linker-links, linker-below, linker-first, linker-next, next-inside, owner-below, reached}
use Rattle.layout.specs.Tables.{Table, Passed, Below, front-more, owner-entry}
use Rattle.unit.specs.Start.{place_by, place, path_by, path}

-- ---- one step of the definitions
place-zero : (s : List ℕ) (n j : ℕ) → first s (linker s j) ≡ j → place_by s (suc n) j ≡ 0
unfolding place_by
place-zero s n j e = rw (eq-eqb (first s (linker s j)) j e)

place-step : (s : List ℕ) (n m j : ℕ) → place_by s n (linker s j) ≡ place_by s m (linker s j) → place_by s (suc n) j ≡ place_by s (suc m) j
unfolding place_by
place-step s n m j e = ap (λ p. cond (eqb (first s (linker s j)) j) 0 (suc p)) e

place-more : (s : List ℕ) (n j : ℕ) → first s (linker s j) ≢ j → place_by s (suc n) j ≡ suc (place_by s n (linker s j))
unfolding place_by
place-more s n j d = rw (ne_eqb (first s (linker s j)) j d)

path-none : (s : List ℕ) (n j : ℕ) → j ≡ 0 → path_by s n j ≡ path_of s
unfolding path_by
path-none s zero j e = refl
path-none s (suc n) j e = rw (eq-eqb j 0 e)

path-step : (s : List ℕ) (n m j : ℕ) → path_by s n (owner s j) ≡ path_by s m (owner s j) → path_by s (suc n) j ≡ path_by s (suc m) j
unfolding path_by
path-step s n m j e = ap (λ p. cond (eqb j 0) (path_of s) (child_path p (place s j))) e

path-more : (s : List ℕ) (n j : ℕ) → j ≢ 0 → path_by s (suc n) j ≡ child_path (path_by s n (owner s j)) (place s j)
unfolding path_by
path-more s n j d = rw (ne_eqb j 0 d)

module _ (s : List ℕ) (g : Good s) where
  -- a record that a next leads from is not record 0
  from_some : (i j : ℕ) → next s i ≡ j → j ≢ 0 → i ≢ 0
  from_some i j e d z = d (sym e ∙ ap (next s) z ∙ g.alone)

  -- ---- places: fuel plays no part
  place-enough : (n m j : ℕ) → j ≢ 0 → j < count_of s → j ≤ n → j ≤ m → place_by s n j ≡ place_by s m j
  place-enough zero m j d h p q = absurd (d (omega arith))
  place-enough (suc n) zero j d h p q = absurd (d (omega arith))
  place-enough (suc n) (suc m) j d h p q = elim (linker-links s g j d h) [
    | inl e ↦ place-zero s n j e ∙ sym (place-zero s m j e)
    | inr e ↦ let b = linker-below s g j d h in place-step s n m j (place-enough n m (linker s j) (from_some (linker s j) j e d) (linker-in s g j d h) (omega arith) (omega arith))
  ]

  pub place-root : place s 0 ≡ 0
  unfolding place place_by
  place-root = refl

  pub place-first : (i j : ℕ) → first s i ≡ j → j ≢ 0 → place s j ≡ 0
  unfolding place
  place-first i zero e d = absurd (d refl)
  place-first i (suc j) e d = place-zero s j (suc j) (ap (first s) (linker-first s g i (suc j) e d) ∙ e)

  pub place-next : (i j : ℕ) → next s i ≡ j → j ≢ 0 → place s j ≡ suc (place s i)
  unfolding place
  place-next i zero e d = absurd (d refl)
  place-next i (suc j) e d =
      let l = linker-next s g i (suc j) e d in
      let n = from_some i (suc j) e d in
      let u : i < suc j = omega (arith, e, g.forest.next_up i (λ z. d (sym e ∙ z))) in
      place-more s j (suc j) (λ q. g.forest.not_both (linker s (suc j)) i (λ z. d (sym q ∙ z)) (q ∙ sym e))
      ∙ ap (λ k. suc (place_by s j k)) l
      ∙ ap suc (place-enough j i i n (next-inside s g i (λ z. d (sym e ∙ z))) (omega arith) (omega arith))

  pub place-below : (j : ℕ) → j ≢ 0 → j < count_of s → place s j < j
  place-below j d h = reached s g (λ j. place s j < j)
      (λ i j e d. omega (arith, place-first i j e d))
      (λ i j e n d w. omega (arith, place-next i j e d, e, g.forest.next_up i (λ z. d (sym e ∙ z)))) j d h

  -- ---- paths
  path-enough : (n m j : ℕ) → j < count_of s → j ≤ n → j ≤ m → path_by s n j ≡ path_by s m j
  path-enough zero m j h p q = path-none s 0 j (omega arith) ∙ sym (path-none s m j (omega arith))
  path-enough (suc n) zero j h p q = path-none s (suc n) j (omega arith) ∙ sym (path-none s 0 j (omega arith))
  path-enough (suc n) (suc m) j h p q = elim (ℕ_discrete j 0) [
    | yes e ↦ path-none s (suc n) j e ∙ sym (path-none s (suc m) j e)
    | no d ↦ let b = owner-below s g j d h in path-step s n m j (path-enough n m (owner s j) (omega arith) (omega arith) (omega arith))
  ]

  pub path-root : path s 0 ≡ path_of s
  unfolding path
  path-root = path-none s 0 0 refl

  pub path-in : (j : ℕ) → j ≢ 0 → j < count_of s → path s j ≡ child_path (path s (owner s j)) (place s j)
  unfolding path
  path-in zero d h = absurd (d refl)
  path-in (suc j) d h =
      let b = owner-below s g (suc j) d h in
      path-more s j (suc j) d ∙ ap (λ p. child_path p (place s (suc j))) (path-enough j (owner s (suc j)) (owner s (suc j)) (omega arith) (omega arith) (omega arith))

-- ---- the places of the records that the links of those below i lead to
abbrev pub Placing : List ℕ → ℕ → ℕ → List ℕ → Type 0
Placing s n i t = (j : ℕ) → j ≢ 0 → j < n → linker s j < i → get_or t j 0 ≡ place s j

module _ (s : List ℕ) (n : ℕ) (a : Passed s n) where
  accepted : Good s
  accepted = good s a.passed

  turnless : (i : ℕ) → first s i ≡ i → i ≢ 0 → ⊥
  turnless i e z = omega (arith, accepted.forest.first_up i (λ y. z (sym e ∙ y)))

  -- record i's own place is known before its links are followed
  own-place : (i f : ℕ) (t : List ℕ) → i < n → f ≡ first s i → i ≢ 0 → Placing s n i t → get_or (set t f 0) i 0 ≡ place s i
  own-place i f t h ef z w =
      get_or-set_other t f i 0 0 (λ y. turnless i (sym ef ∙ sym y) z) ∙ w i z h (linker-below s accepted i z (omega (arith, a.count)))

  pub entry-small : (i f : ℕ) (t : List ℕ) → i < n → n ≤ length t → f ≡ first s i → (i ≡ 0 → get_or t 0 0 ≡ 0) → Placing s n i t → get_or (set t f 0) i 0 ≤ 256
  entry-small i f t h l ef r w = elim (ℕ_discrete i 0) [
    | yes z ↦ elim (ℕ_discrete i f) [
      | yes q ↦ omega (arith, ap (λ k. get_or (set t f 0) k 0) q, get_or-set_same t f 0 0 (omega arith))
      | no q ↦ omega (arith, get_or-set_other t f i 0 0 q, ap (λ k. get_or t k 0) z, r z)
    ]
    | no z ↦ omega (arith, own-place i f t h ef z w, place-below s accepted i z (omega (arith, a.count)), a.small)
  ]

  pub places-turn : (i f k : ℕ) (t : List ℕ) → i < n → n ≤ length t → f ≡ first s i → k ≡ next s i → Placing s n i t → Placing s n (i + 1) (set (set t f 0) k (get_or (set t f 0) i 0 + 1))
  places-turn i f k t h l ef ek w j d b c = elim (ℕ_discrete j k) [
    | yes q ↦
        let e : next s i ≡ j = sym ek ∙ sym q in
        let p : get_or (set t f 0) i 0 + 1 ≡ place s j = omega (arith, own-place i f t h ef (from_some s accepted i j e d) w, place-next s accepted i j e d) in
        rw q (get_or-set_same (set t f 0) k (get_or (set t f 0) i 0 + 1) 0 (rw length-set (omega arith))) ∙ p
    | no q ↦ get_or-set_other (set t f 0) k j (get_or (set t f 0) i 0 + 1) 0 q ∙ elim (ℕ_discrete j f) [
      | yes p ↦ rw p (get_or-set_same t f 0 0 (omega arith)) ∙ sym (place-first s accepted i j (sym ef ∙ sym p) d)
      | no p ↦ get_or-set_other t f j 0 0 p ∙ w j d b (below q p)
    ]
  ]
    where
      below : j ≢ k → j ≢ f → linker s j < i
      below q p = elim (ℕ_discrete (linker s j) i) [
        | yes e ↦ absurd (elim (linker-links s accepted j d (omega (arith, a.count))) [
          | inl y ↦ p (sym y ∙ ap (first s) e ∙ sym ef)
          | inr y ↦ q (sym y ∙ ap (next s) e ∙ sym ek)
        ])
        | no e ↦ omega arith
      ]

  pub places-done : (i : ℕ) (t : List ℕ) → n ≤ i → n ≤ length t → Placing s n i t → Table (place s) n (set t 0 0)
  places-done i t h l w = record {
    long = rw length-set l;
    at = λ j b. elim (ℕ_discrete j 0) [
      | yes z ↦ rw z (get_or-set_same t 0 0 0 (omega arith) ∙ sym (place-root s accepted))
      | no d ↦ get_or-set_other t 0 j 0 0 d ∙ w j d b (omega (arith, linker-below s accepted j d (omega (arith, a.count))))
    ];
  }

  -- ---- paths, by the owner's
  pub root_is : (w : ℕ) → w ≡ path_of s → w ≡ path s 0
  root_is w e = e ∙ sym (path-root s accepted)

  pub paths-turn : (owned places paths : List ℕ) → Table (owner s) n owned → Table (place s) n places → (j : ℕ) → 0 < j → j < n → n ≤ length paths → Below (path s) j paths
      → (v : ℕ) → v ≡ child_path (get_or paths (get_or owned j 0) 0) (get_or places j 0) → Below (path s) (j + 1) (set paths j v)
  paths-turn owned places paths wo wp j z h l w v e =
      let d : j ≢ 0 = omega arith in
      let o = owner-entry s n a owned wo j d h in
      front-more (path s) paths j v (omega arith) w
      (e ∙ rw (w (get_or owned j 0) o, wo.at j h, wp.at j h) (sym (path-in s accepted j d (omega (arith, a.count)))))
