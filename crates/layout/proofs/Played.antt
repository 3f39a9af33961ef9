-- The links of what is played make a tree in which each played record stands once, and nothing else.
use Rattle.std.specs.Prelude.{◌≡◌, refl, Bool, false, cond, List, ◌≢◌}
use Rattle.std.proofs.Common.{sym, ap, ◌∙◌, inl, inr}
use Rattle.std.proofs.Math.Path.{subst}
use Rattle.std.proofs.Math.Bool.{true}
use Prim.Native.Nat.{ℕ, zero, suc, ◌+◌, ◌-◌, ◌≤◌, ◌<◌}
use native.Mathlib.Omega.{arith}
use Rattle.std.proofs.Math.Decide.{ℕ_discrete}
use Rattle.tree.specs.Tree.{In, here, kid, rest, Apart}
use Rattle.tree.specs.Forest.{Forest, build, Link, down, along, whole, root, root-apart, root-all}
use Rattle.sheet.specs.Record.{count_of, kind, first, next}
use Rattle.sheet.specs.Kinds.{is_processor}
use Rattle.layout.specs.Built.{linker, owner, trailing, role, is_played, begin, after}
use Rattle.layout.specs.declared.Role.TheVariants.{Silent, Built}
use Rattle.layout.specs.Good.{Good, false-true}
use Rattle.layout.specs.Owners.{linker-in, linker-links, linker-below, owner-first, owner-next, owner-below, next-inside}
use Rattle.layout.specs.Roles.{stage_from}
use Rattle.layout.proofs.Roles.{begin-built, begin-chain, begin-other, after-played, after_next, stage-none, stage-here, staged, stage-past, played-owner, chain-last, chain-built, other-played, next-played, role-root}
use Rattle.layout.specs.Played.{played_tree}

either : (b : Bool) → is_played (cond b Silent Built) ≡ true
either true = refl
either false = refl

-- ---- trees from links: a tree with a record has what the record links to
module _ (first next : ℕ → ℕ) (f : Forest first next) (N : ℕ) (first_in : (i : ℕ) → first i ≢ 0 → first i < N) (next_in : (i : ℕ) → next i ≢ 0 → next i < N) where
  in-self : (n j : ℕ) → j ≢ 0 → j < N → N ≤ n + j → In j (build first next n j)
  in-self zero j d h l = let x : ⊥ = omega arith in absurd x
  in-self (suc n) zero d h l = absurd (d refl)
  in-self (suc n) (suc j) d h l = here

  in-link : (n a : ℕ) → N ≤ n + a → {i j : ℕ} → In i (build first next n a) → Link first next i j → In j (build first next n a)
  in-link zero a l {i = i} {j = j} x3 k = elim x3 [ ]
  in-link (suc n) zero l {i = i} {j = j} x7 k = elim x7 [ ]
  in-link (suc n) (suc a) l here (down d e) = subst (λ j. In j (build first next (suc n) (suc a))) e
      (kid (in-self n (first (suc a)) d (first_in (suc a) d) (omega (arith, f.first_up (suc a) d))))
  in-link (suc n) (suc a) l here (along d e) = subst (λ j. In j (build first next (suc n) (suc a))) e
      (rest (in-self n (next (suc a)) d (next_in (suc a) d) (omega (arith, f.next_up (suc a) d))))
  in-link (suc n) (suc a) l (kid p) k = kid (in-link n (first (suc a)) (fuel n (first (suc a)) p (f.first_up (suc a)) l) p k)
    where
      fuel : (n b : ℕ) {i : ℕ} → In i (build first next n b) → (b ≢ 0 → suc a < b) → N ≤ suc n + suc a → N ≤ n + b
      fuel zero b p up l = elim p [ ]
      fuel (suc n) zero p up l = elim p [ ]
      fuel (suc n) (suc b) p up l = omega (arith, up (omega arith))
  in-link (suc n) (suc a) l (rest p) k = rest (in-link n (next (suc a)) (fuel n (next (suc a)) p (f.next_up (suc a)) l) p k)
    where
      fuel : (n b : ℕ) {i : ℕ} → In i (build first next n b) → (b ≢ 0 → suc a < b) → N ≤ suc n + suc a → N ≤ n + b
      fuel zero b p up l = elim p [ ]
      fuel (suc n) zero p up l = elim p [ ]
      fuel (suc n) (suc b) p up l = omega (arith, up (omega arith))

  whole-link : (a : ℕ) → a < N → {i j : ℕ} → In i (whole first next N a) → Link first next i j → In j (whole first next N a)
  unfolding whole
  whole-link a h p k = in-link (N - a) a (omega arith) p k

  whole-self : (j : ℕ) → j ≢ 0 → j < N → In j (whole first next N j)
  unfolding whole
  whole-self j d h = in-self (N - j) j d h (omega arith)

  link-in : (a : ℕ) → (a ≢ 0 → a < N) → 0 < N → a < N
  link-in a h some = elim (ℕ_discrete a 0) [ yes e ↦ rw e some | no d ↦ h d ]

  pub root-link : 0 < N → {i j : ℕ} → In i (root first next N) → Link first next i j → In j (root first next N)
  unfolding root
  root-link some here (down d e) = subst (λ j. In j (root first next N)) e (kid (whole-self (first 0) d (first_in 0 d)))
  root-link some here (along d e) = subst (λ j. In j (root first next N)) e (rest (whole-self (next 0) d (next_in 0 d)))
  root-link some (kid p) k = kid (whole-link (first 0) (link-in (first 0) (first_in 0) some) p k)
  root-link some (rest p) k = rest (whole-link (next 0) (link-in (next 0) (next_in 0) some) p k)

module _ (s : List ℕ) (g : Good s) where
  -- ---- a link of what is played, and the record that it leads to
  pub begin-owner : (i : ℕ) → begin s i ≢ 0 → owner s (begin s i) ≡ i
  begin-owner i d = let r = begin-built s i d in elim (ℕ_discrete (kind s i) 13) [
    | yes k ↦
        let e = begin-chain s i r k in
        let n : first s i ≢ 0 = λ z. d (e ∙ ap (stage_from s) z ∙ stage-none s g) in
        ap (owner s) e ∙ (staged s g (first s i) n (g.first_in i n)).same ∙ owner-first s g i (first s i) refl n
    | no k ↦ let e = begin-other s i r k in owner-first s g i (begin s i) (sym e) d
  ]

  pub begin-up : (i : ℕ) → begin s i ≢ 0 → i < begin s i
  begin-up i d = let r = begin-built s i d in elim (ℕ_discrete (kind s i) 13) [
    | yes k ↦
        let e = begin-chain s i r k in
        let n : first s i ≢ 0 = λ z. d (e ∙ ap (stage_from s) z ∙ stage-none s g) in
        omega (arith, (staged s g (first s i) n (g.first_in i n)).above, g.forest.first_up i n)
    | no k ↦ let e = begin-other s i r k in omega (arith, g.forest.first_up i (λ z. d (e ∙ z)))
  ]

  pub begin-in : (i : ℕ) → begin s i ≢ 0 → begin s i < count_of s
  begin-in i d = let r = begin-built s i d in elim (ℕ_discrete (kind s i) 13) [
    | yes k ↦
        let e = begin-chain s i r k in
        let n : first s i ≢ 0 = λ z. d (e ∙ ap (stage_from s) z ∙ stage-none s g) in
        omega (arith, (staged s g (first s i) n (g.first_in i n)).in_sheet)
    | no k ↦ let e = begin-other s i r k in omega (arith, g.first_in i (λ z. d (e ∙ z)))
  ]

  pub after_is : (i : ℕ) → after s i ≢ 0 → after s i ≡ next s i
  after_is i d = after_next s i (after-played s i d)

  pub after-up : (i : ℕ) → after s i ≢ 0 → i < after s i
  after-up i d = let e = after_is i d in omega (arith, g.forest.next_up i (λ z. d (e ∙ z)))

  pub after-in : (i : ℕ) → after s i ≢ 0 → after s i < count_of s
  after-in i d = let e = after_is i d in omega (arith, g.next_in i (λ z. d (e ∙ z)))

  pub after-root : after s 0 ≡ 0
  after-root = elim (ℕ_discrete (after s 0) 0) [ yes e ↦ e | no d ↦ after_is 0 d ∙ g.alone ]

  -- a Chain's source stage stands first, or after a stage that is not built
  apart : (i j : ℕ) → begin s i ≢ 0 → begin s i ≢ after s j
  apart i j d q = elim (ℕ_discrete (kind s i) 13) [
    | yes k ↦
        let e = begin-chain s i (begin-built s i d) k in
        let n : first s i ≢ 0 = λ z. d (e ∙ ap (stage_from s) z ∙ stage-none s g) in
        elim ((staged s g (first s i) n (g.first_in i n)).before j (sym (after_is j u) ∙ sym q ∙ e)) [
          | inl z ↦ g.forest.not_both i j n (sym z)
          | inr z ↦ false-true (sym z ∙ chain-last s g j w (next-inside s g j m) (ap (kind s) (sym o) ∙ k) (after-played s j u))
        ]
    | no k ↦
        let e = begin-other s i (begin-built s i d) k in
        g.forest.not_both i j (λ z. d (e ∙ z)) (sym e ∙ q ∙ after_is j u)
  ]
    where
      u : after s j ≢ 0
      u z = d (q ∙ z)

      m : next s j ≢ 0
      m z = u (after_is j u ∙ z)

      w : j ≢ 0
      w z = m (ap (next s) z ∙ g.alone)

      o : i ≡ owner s j
      o = sym (begin-owner i d) ∙ ap (owner s) (q ∙ after_is j u) ∙ owner-next s g j (next s j) refl m

  pub played-forest : Forest (begin s) (after s)
  played-forest = record {
    first_up = begin-up;
    next_up = after-up;
    first_one = λ i j d e. sym (begin-owner i d) ∙ ap (owner s) e ∙ begin-owner j (λ z. d (e ∙ z));
    next_one = λ i j d e.
        let n : after s j ≢ 0 = λ z. d (e ∙ z) in
        g.forest.next_one i j (λ z. d (after_is i d ∙ z)) (sym (after_is i d) ∙ e ∙ after_is j n);
    not_both = apart;
  }

  pub played-apart : Apart (played_tree s)
  played-apart = root-apart (begin s) (after s) played-forest (count_of s)

  links-on : {i j : ℕ} → In i (played_tree s) → Link (begin s) (after s) i j → In j (played_tree s)
  links-on p k = root-link (begin s) (after s) played-forest (count_of s) begin-in after-in g.some p k

  begun : (i j : ℕ) → j ≢ 0 → begin s i ≡ j → In i (played_tree s) → In j (played_tree s)
  begun i j d e p = links-on p (down (λ z. d (sym e ∙ z)) e)

  -- by the link that leads to j: from the record before it if that is played, and else from the Chain in which both stand
  from-link : (j : ℕ) → j ≢ 0 → j < count_of s → is_played (role s j) ≡ true → ((i : ℕ) → i < j → is_played (role s i) ≡ true → In i (played_tree s)) → In j (played_tree s)
  from-link j d h e up = elim (ℕ_discrete (kind s o) 13) [
    | yes k ↦ elim (linker-links s g j d h) [
      | inl q ↦ begun i j d (begin-chain s i (rw (ow q) at r) (rw (ow q) at k) ∙ ap (stage_from s) q ∙ stage-here s g j d h (chain-last s g j d h k e)) (up i b (ap is_played (rw (ow q) at r)))
      | inr q ↦ later k q (trailing s i) refl
    ]
    | no k ↦ elim (linker-links s g j d h) [
      | inl q ↦ begun i j d (begin-other s i (rw (ow q) at r) (rw (ow q) at k) ∙ q) (up i b (ap is_played (rw (ow q) at r)))
      | inr q ↦ let w = other-played s g i (nz q) (linker-in s g j d h) (rw (on q) at r) (rw (on q) at k) in
          links-on (up i b w) (along (λ z. d (sym q ∙ sym (after_next s i w) ∙ z)) (after_next s i w ∙ q))
    ]
  ]
    where
      o : ℕ
      o = owner s j

      i : ℕ
      i = linker s j

      b : linker s j < j
      b = linker-below s g j d h

      r : role s (owner s j) ≡ Built
      r = played-owner s g j d h e

      ow : first s (linker s j) ≡ j → owner s j ≡ linker s j
      ow q = owner-first s g (linker s j) j q d

      on : next s (linker s j) ≡ j → owner s j ≡ owner s (linker s j)
      on q = owner-next s g (linker s j) j q d

      nz : next s (linker s j) ≡ j → linker s j ≢ 0
      nz q z = d (sym q ∙ ap (next s) z ∙ g.alone)

      later : kind s (owner s j) ≡ 13 → next s (linker s j) ≡ j → (t : Bool) → trailing s (linker s j) ≡ t → In j (played_tree s)
      later k q true t = let w = ap is_played (chain-built s g i (nz q) (linker-in s g j d h) (rw (on q) at r) (rw (on q) at k) t) in
          links-on (up i b w) (along (λ z. d (sym q ∙ sym (after_next s i w) ∙ z)) (after_next s i w ∙ q))
      later k q false t = begun o j d
          (begin-chain s o r k ∙ ap (λ x. stage_from s (first s x)) (on q) ∙ stage-past s g i (nz q) (linker-in s g j d h) t ∙ ap (stage_from s) q ∙ stage-here s g j d h (chain-last s g j d h k e))
          (up o (owner-below s g j d h) (ap is_played r))

  pub played-in : (j : ℕ) → j < count_of s → is_played (role s j) ≡ true → In j (played_tree s)
  unfolding root
  played-in j h e = go (suc j) j h (omega arith) e
    where
      go : (n j : ℕ) → j < count_of s → j < n → is_played (role s j) ≡ true → In j (played_tree s)
      go zero j h l e = let x : ⊥ = omega arith in absurd x
      go (suc n) j h l e = elim (ℕ_discrete j 0) [
        | yes z ↦ subst (λ k. In k (played_tree s)) (sym z) here
        | no d ↦ from-link j d h e (λ i b w. go n i (omega arith) (omega arith) w)
      ]

  -- ---- and nothing else
  pub begin-played : (i : ℕ) → is_played (role s i) ≡ true → begin s i ≢ 0 → is_played (role s (begin s i)) ≡ true
  begin-played i e d = elim (ℕ_discrete (kind s i) 13) [
    | yes k ↦
        let q = begin-chain s i r k in
        let n : first s i ≢ 0 = λ z. d (q ∙ ap (stage_from s) z ∙ stage-none s g) in
        ap is_played (chain-built s g (begin s i) d h (rw o r) (rw o k) (rw q (staged s g (first s i) n (g.first_in i n)).last))
    | no k ↦ other-played s g (begin s i) d h (rw o r) (rw o k)
  ]
    where
      r : role s i ≡ Built
      r = begin-built s i d

      h : begin s i < count_of s
      h = begin-in i d

      o : owner s (begin s i) ≡ i
      o = begin-owner i d

  root-played : is_played (role s 0) ≡ true
  root-played = rw (role-root s g) (either (is_processor (kind s 0)))

  pub in-played : {j : ℕ} → In j (played_tree s) → (is_played (role s j) ≡ true) × (j < count_of s)
  in-played p = root-all (begin s) (after s) (λ j. (is_played (role s j) ≡ true) × (j < count_of s))
      (λ i w d. (begin-played i w.0 d, begin-in i d))
      (λ i w d. (rw (after_is i d) (next-played s g i w.0 (λ z. d (after_is i d ∙ z))), after-in i d))
      (count_of s) (root-played, g.some) p
