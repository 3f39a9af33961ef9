-- What is built of an accepted sheet: roles by owners, the end of a Chain that is built, and where it begins.
use Rattle.std.specs.Prelude.{◌≡◌, Bool, true, false, cond, ◌&&◌, List, ◌≢◌, ◌⊎◌, eqb}
use Rattle.std.proofs.Math.Path.{refl, ap}
use Rattle.std.proofs.Common.{sym, ◌∙◌, inl, inr, arith}
use Prim.Native.Nat.{ℕ, zero, suc, ◌≤◌, ◌<◌}
use Rattle.std.proofs.Math.Decide.{ℕ_discrete}
use borrow.Author.Tests.{eq-eqb, ne_eqb}
use Rattle.sheet.specs.Record.{count_of, kind, first, next}
use Rattle.sheet.specs.Kinds.{is_processor, is_fold}
use Rattle.sheet.specs.Tree.{records, spine}
use Rattle.sheet.specs.Checks.{every}
use Rattle.layout.specs.Built.{owner, processors, trailing, role_in, root_role, role_by, role, is_built, is_played, stage, begin, after}
use Rattle.layout.specs.declared.Role.{Role}
use Rattle.layout.specs.declared.Role.TheVariants.{Out, Silent, Built}
use Rattle.layout.specs.Good.{Good, false-true}
use Rattle.layout.specs.Owners.{owner-first, owner-next, owner-below, next-inside, records-none, records-some, along, reached}
use Rattle.layout.specs.Roles.{stage_from}

-- ---- roles by cases
pub is-built : (r : Role) → is_built r ≡ true → r ≡ Built
is-built Out e = absurd (false-true e)
is-built Silent e = absurd (false-true e)
is-built Built e = refl

role-in-built : (r : Role) (k : ℕ) (p l : Bool) → is_played (role_in r k p l) ≡ true → r ≡ Built
unfolding role_in
role-in-built Out k p l e = absurd (false-true e)
role-in-built Silent k p l e = absurd (false-true e)
role-in-built Built k p l e = refl

played-last : (p l : Bool) → is_played (role_in Built 13 p l) ≡ true → l ≡ true
unfolding role_in
played-last p true e = refl
played-last p false e = e

played-other : (k : ℕ) (p l : Bool) → k ≢ 13 → is_played (role_in Built k p l) ≡ true
unfolding role_in
played-other k p l d = rw (ne_eqb k 13 d) (go (is_fold k) p)
  where
    go : (f p : Bool) → is_played (cond f (cond p Silent Built) Built) ≡ true
    go true true = refl
    go true false = refl
    go false p = refl

role-step : (s : List ℕ) (n m j : ℕ) → role_by s n (owner s j) ≡ role_by s m (owner s j) → role_by s (suc n) j ≡ role_by s (suc m) j
unfolding role_by
role-step s n m j e = ap (λ r. cond (eqb j 0) (root_role s) (role_in r (kind s (owner s j)) (is_processor (kind s j)) (trailing s j))) e

role-none : (s : List ℕ) (n j : ℕ) → j ≡ 0 → role_by s n j ≡ root_role s
unfolding role_by
role-none s zero j e = refl
role-none s (suc n) j e = rw (eq-eqb j 0 e)

-- a link that is not 0 is one of a record with the role that it needs
cond-built : (r : Role) (x : ℕ) → cond (is_built r) x 0 ≢ 0 → r ≡ Built
cond-built Out x d = absurd (d refl)
cond-built Silent x d = absurd (d refl)
cond-built Built x d = refl

cond-played : (r : Role) (x : ℕ) → cond (is_played r) x 0 ≢ 0 → is_played r ≡ true
cond-played Out x d = absurd (d refl)
cond-played Silent x d = refl
cond-played Built x d = refl

-- ---- the links of what is played, by cases
pub begin-built : (s : List ℕ) (i : ℕ) → begin s i ≢ 0 → role s i ≡ Built
unfolding begin
begin-built s i d = cond-built (role s i) _ d

pub begin-chain : (s : List ℕ) (i : ℕ) → role s i ≡ Built → kind s i ≡ 13 → begin s i ≡ stage_from s (first s i)
unfolding begin
begin-chain s i r k = rw (r, eq-eqb (kind s i) 13 k)

pub begin-other : (s : List ℕ) (i : ℕ) → role s i ≡ Built → kind s i ≢ 13 → begin s i ≡ first s i
unfolding begin
begin-other s i r k = rw (r, ne_eqb (kind s i) 13 k)

pub after-played : (s : List ℕ) (i : ℕ) → after s i ≢ 0 → is_played (role s i) ≡ true
unfolding after
after-played s i d = cond-played (role s i) (next s i) d

pub after_next : (s : List ℕ) (i : ℕ) → is_played (role s i) ≡ true → after s i ≡ next s i
unfolding after
after_next s i e = rw e

module _ (s : List ℕ) (g : Good s) where
  role-enough : (n m j : ℕ) → j < count_of s → j ≤ n → j ≤ m → role_by s n j ≡ role_by s m j
  role-enough zero m j h p q = role-none s 0 j (omega arith) ∙ sym (role-none s m j (omega arith))
  role-enough (suc n) zero j h p q = role-none s (suc n) j (omega arith) ∙ sym (role-none s 0 j (omega arith))
  role-enough (suc n) (suc m) j h p q = elim (ℕ_discrete j 0) [
    | yes e ↦ role-none s (suc n) j e ∙ sym (role-none s (suc m) j e)
    | no d ↦ let b = owner-below s g j d h in role-step s n m j (role-enough n m (owner s j) (omega arith) (omega arith) (omega arith))
  ]

  pub role-root : role s 0 ≡ root_role s
  unfolding role
  role-root = role-none s 0 0 refl

  pub role-in : (j : ℕ) → j ≢ 0 → j < count_of s → role s j ≡ role_in (role s (owner s j)) (kind s (owner s j)) (is_processor (kind s j)) (trailing s j)
  unfolding role role_by
  role-in zero d h = absurd (d refl)
  role-in (suc j) d h =
      let b = owner-below s g (suc j) d h in
      rw (ne_eqb (suc j) 0 d)
      (ap (λ r. role_in r (kind s (owner s (suc j))) (is_processor (kind s (suc j))) (trailing s (suc j))) (role-enough j (owner s (suc j)) (owner s (suc j)) (omega arith) (omega arith) (omega arith)))

  -- ---- the end of a chain after j
  pub trailing-none : (j : ℕ) → next s j ≡ 0 → trailing s j ≡ true
  unfolding trailing processors spine every
  trailing-none j e = rw (e, records-none s g)

  pub trailing-some : (j k : ℕ) → next s j ≡ k → k ≢ 0 → trailing s j ≡ is_processor (kind s k) && trailing s k
  unfolding trailing processors spine every
  trailing-some j k e d = let h : k < count_of s = omega (arith, g.next_in j (λ z. d (sym e ∙ z))) in
      ap (λ t. processors s t) (ap (records s) e ∙ records-some s g k d h)

  pub trailing-next : (j : ℕ) → trailing s j ≡ true → (k : ℕ) → next s j ≡ k → k ≢ 0 → trailing s k ≡ true
  trailing-next j t k e d = go (is_processor (kind s k)) (trailing s k) (sym (trailing-some j k e d) ∙ t)
    where
      go : (a b : Bool) → a && b ≡ true → b ≡ true
      go true b e = e
      go false b e = absurd (false-true e)

  pub trailing-back : (j : ℕ) → trailing s j ≡ false → (i : ℕ) → next s i ≡ j → j ≢ 0 → trailing s i ≡ false
  trailing-back j t i e d = trailing-some i j e d ∙ go (is_processor (kind s j)) (trailing s j) t
    where
      go : (a b : Bool) → b ≡ false → a && b ≡ false
      go true b e = e
      go false b e = refl

  pub trailing-more : (j : ℕ) → trailing s j ≡ false → next s j ≢ 0
  trailing-more j t e = false-true (sym t ∙ trailing-none j e)

  -- ---- where it begins
  pub stage-none : stage_from s 0 ≡ 0
  unfolding stage
  stage-none = rw (records-none s g)

  pub stage-some : (j : ℕ) → j ≢ 0 → j < count_of s → stage_from s j ≡ cond (trailing s j) j (stage_from s (next s j))
  unfolding stage trailing
  stage-some j d h = ap (stage s) (records-some s g j d h)

  pub stage-here : (j : ℕ) → j ≢ 0 → j < count_of s → trailing s j ≡ true → stage_from s j ≡ j
  stage-here j d h t = stage-some j d h ∙ rw t

  pub stage-on : (j : ℕ) → j ≢ 0 → j < count_of s → trailing s j ≡ false → stage_from s j ≡ stage_from s (next s j)
  stage-on j d h t = stage-some j d h ∙ rw t

  -- the stage that the chain from a is built from, with what stands before and after it
  pub record Staged (a : ℕ) : Type 0 where
    pub some : stage_from s a ≢ 0
    pub in_sheet : stage_from s a < count_of s
    pub above : a ≤ stage_from s a
    pub last : trailing s (stage_from s a) ≡ true
    pub same : owner s (stage_from s a) ≡ owner s a
    pub before : (j : ℕ) → next s j ≡ stage_from s a → (next s j ≡ a) ⊎ (trailing s j ≡ false)

  staged-here : (a : ℕ) → a ≢ 0 → a < count_of s → trailing s a ≡ true → Staged a
  staged-here a d h t = let e = stage-here a d h t in record {
    some = λ z. d (sym e ∙ z);
    in_sheet = omega arith;
    above = omega arith;
    last = rw e t;
    same = rw e;
    before = λ j q. inl (q ∙ e);
  }

  staged-on : (a : ℕ) → a ≢ 0 → a < count_of s → trailing s a ≡ false → Staged (next s a) → Staged a
  staged-on a d h t w =
      let e = stage-on a d h t in
      let n = trailing-more a t in
      record {
        some = λ z. w.some (sym e ∙ z);
        in_sheet = omega (arith, w.in_sheet);
        above = omega (arith, w.above, g.forest.next_up a n);
        last = rw e w.last;
        same = rw e (w.same ∙ owner-next s g a (next s a) refl n);
        before = λ j q. elim (w.before j (q ∙ e)) [
          | inl z ↦ inr (ap (trailing s) (sym (g.forest.next_one a j n (sym z))) ∙ t)
          | inr z ↦ inr z
        ];
      }

  pub staged : (a : ℕ) → a ≢ 0 → a < count_of s → Staged a
  staged a d h = along s g (λ a. a ≢ 0 → Staged a) (λ d. absurd (d refl)) turn a h d
    where
      by : (i : ℕ) → i ≢ 0 → i < count_of s → (next s i ≢ 0 → Staged (next s i)) → (b : Bool) → trailing s i ≡ b → Staged i
      by i d h f true t = staged-here i d h t
      by i d h f false t = staged-on i d h t (f (trailing-more i t))

      turn : (i : ℕ) → i ≢ 0 → i < count_of s → (next s i ≢ 0 → Staged (next s i)) → i ≢ 0 → Staged i
      turn i d h f z = by i d h f (trailing s i) refl

  -- a stage that is not built has the built ones after it
  pub stage-past : (i : ℕ) → i ≢ 0 → i < count_of s → trailing s i ≡ false → stage_from s (first s (owner s i)) ≡ stage_from s (next s i)
  stage-past i d h = reached s g (λ i. trailing s i ≡ false → stage_from s (first s (owner s i)) ≡ stage_from s (next s i)) begins turn i d h
    where
      begins : (i j : ℕ) → first s i ≡ j → j ≢ 0 → trailing s j ≡ false → stage_from s (first s (owner s j)) ≡ stage_from s (next s j)
      begins i j e d t = let h : j < count_of s = omega (arith, g.first_in i (λ z. d (sym e ∙ z))) in
          ap (λ k. stage_from s (first s k)) (owner-first s g i j e d) ∙ ap (stage_from s) e ∙ stage-on j d h t

      turn : (i j : ℕ) → next s i ≡ j → i ≢ 0 → j ≢ 0 → (trailing s i ≡ false → stage_from s (first s (owner s i)) ≡ stage_from s (next s i))
          → trailing s j ≡ false → stage_from s (first s (owner s j)) ≡ stage_from s (next s j)
      turn i j e z d f t = let h : j < count_of s = omega (arith, g.next_in i (λ z. d (sym e ∙ z))) in
          ap (λ k. stage_from s (first s k)) (owner-next s g i j e d) ∙ f (trailing-back j t i e d) ∙ ap (stage_from s) e ∙ stage-on j d h t

  -- ---- the role of a record by its owner's
  pub played-owner : (j : ℕ) → j ≢ 0 → j < count_of s → is_played (role s j) ≡ true → role s (owner s j) ≡ Built
  played-owner j d h e = role-in-built (role s (owner s j)) (kind s (owner s j)) (is_processor (kind s j)) (trailing s j) (ap is_played (sym (role-in j d h)) ∙ e)

  role_under : (j : ℕ) → j ≢ 0 → j < count_of s → role s (owner s j) ≡ Built → role s j ≡ role_in Built (kind s (owner s j)) (is_processor (kind s j)) (trailing s j)
  role_under j d h r = role-in j d h ∙ ap (λ r. role_in r (kind s (owner s j)) (is_processor (kind s j)) (trailing s j)) r

  -- in a Chain: what is played has only processors after it, and such a stage is built
  pub chain-last : (j : ℕ) → j ≢ 0 → j < count_of s → kind s (owner s j) ≡ 13 → is_played (role s j) ≡ true → trailing s j ≡ true
  chain-last j d h k e = played-last (is_processor (kind s j)) (trailing s j) (ap (λ k. is_played (role_in Built k (is_processor (kind s j)) (trailing s j))) (sym k)
      ∙ ap is_played (sym (role_under j d h (played-owner j d h e))) ∙ e)

  pub chain-built : (j : ℕ) → j ≢ 0 → j < count_of s → role s (owner s j) ≡ Built → kind s (owner s j) ≡ 13 → trailing s j ≡ true → role s j ≡ Built
  unfolding role_in
  chain-built j d h r k t = role_under j d h r ∙ rw (k, t)

  -- in any other record's chain all is built; in any but a Chain's all is played
  pub leaf-built : (j : ℕ) → j ≢ 0 → j < count_of s → role s (owner s j) ≡ Built → is_fold (kind s (owner s j)) ≡ false → kind s (owner s j) ≢ 13 → role s j ≡ Built
  unfolding role_in
  leaf-built j d h r k n = role_under j d h r ∙ rw (k, ne_eqb (kind s (owner s j)) 13 n)

  pub other-played : (j : ℕ) → j ≢ 0 → j < count_of s → role s (owner s j) ≡ Built → kind s (owner s j) ≢ 13 → is_played (role s j) ≡ true
  other-played j d h r n = ap is_played (role_under j d h r) ∙ played-other (kind s (owner s j)) (is_processor (kind s j)) (trailing s j) n

  -- what is played follows what is played
  pub next-played : (i : ℕ) → is_played (role s i) ≡ true → next s i ≢ 0 → is_played (role s (next s i)) ≡ true
  next-played i e n = elim (ℕ_discrete (kind s (owner s i)) 13) [
    | yes k ↦ ap is_played (chain-built j n h (rw o r) (rw o k) (trailing-next i (chain-last i d (next-inside s g i n) k e) j refl n))
    | no k ↦ other-played j n h (rw o r) (rw o k)
  ]
    where
      j : ℕ
      j = next s i

      d : i ≢ 0
      d z = n (ap (next s) z ∙ g.alone)

      h : next s i < count_of s
      h = g.next_in i n

      o : owner s (next s i) ≡ owner s i
      o = owner-next s g i (next s i) refl n

      r : role s (owner s i) ≡ Built
      r = played-owner i d (next-inside s g i n) e
