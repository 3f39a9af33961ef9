-- A record that plays by its own unit: its values first, each over the whole block, then the unit.
use Rattle.std.specs.Prelude.{◌≡◌, refl, true, false, ◌≢◌, ℕ, suc, ◌+◌, ◌-◌, ◌^◌, ◌≤◌, ◌<◌, length, Float}
use Rattle.std.proofs.Math.Path.{sym, ap}
use Rattle.std.proofs.Common.{◌∙◌, subst, arith}
use mathlib.Core.List.{List, [], ◌∷◌, map}
use Rattle.std.proofs.Math.Decide.{ℕ_discrete}
use Rattle.std.proofs.lemmas.List.{length-map}
use Rattle.tree.specs.Tree.{leaf}
use Rattle.tree.specs.Flat.{own, put, put-own}
use Rattle.block.specs.Iterate.{samples, samples-same, after-still, given-still}
use Rattle.block.specs.Patch.{All, played, steps, leaf-none, leaf-one, leaf-two, played-all}
use Rattle.control.specs.declared.Controls.{Controls}
use Rattle.sheet.specs.Record.{count_of, kind}
use Rattle.sheet.specs.Kinds.{Chain, empty, values, nodes, modes, steps as steps_of, row_of, is_fold, is_value}
use Rattle.layout.specs.Built.{role, is_built, begin, after as after_of}
use Rattle.layout.specs.declared.Role.TheVariants.{Built}
use Rattle.layout.specs.Good.{good}
use Rattle.layout.specs.Counts.{layout_of}
use Rattle.layout.proofs.Contents.{Value, one_value, two-values, no-links}
use Rattle.unit.specs.Own.{Own, silence}
use Rattle.unit.specs.Unit.{unit_of}
use Rattle.unit.specs.Voice.{voice, tree_kind, entered, playing}
use Rattle.unit.specs.Sound.{OwnSound}
use Rattle.sheet.specs.Numbers.{chain_of}
use Rattle.sheet.specs.Laws.{never}
use Rattle.sheet.specs.declared.kinds.Chain.{Chain as Made}
use Rattle.sheet.specs.declared.kinds.Chain.TheVariants as C
use Rattle.unit.specs.Buffers.{values_in, values_of, buffers_of}
use Rattle.units.specs.Values.{leaf-chain, leaf-quiet, leaf-most, leaf-values, value-quiet}
use Rattle.walk.specs.Nodes.{value-blind}
use Rattle.walk.specs.Walk.{Sound, Voiced, Owned, Valued, Played, Leafed, leaf-is}

playing-none : (c : Chain) → playing c 0 ≡ 0
playing-none empty = refl
playing-none (values n) = refl
playing-none nodes = refl
playing-none modes = refl
playing-none steps_of = refl

begin-none : (s : List ℕ) (i : ℕ) → is_built (role s i) ≡ false → begin s i ≡ 0
unfolding begin
begin-none s i b = rw b

module _ {s : List ℕ} (v : Voiced s) where
  pub leafed-silent : (i : ℕ) → i < count_of s → tree_kind (kind s i) ≡ leaf → is_built (role s i) ≡ false → (c : Controls) (xs cs : List Float) (rs : List ℕ) (ys : List Float) → Sound s cs rs
      → ys ≡ map (λ x. silence) xs → Leafed s i c xs cs rs ys cs rs
  unfolding played unit_of
  leafed-silent i h k b c xs cs rs ys a e =
      let room = a.room i h in
      let z : entered s i ≡ 0 = ap (playing (row_of (kind s i)).chain) (begin-none s i b) ∙ playing-none (row_of (kind s i)).chain in
      let still : (n : ℕ) (o : Own) → steps (voice s) i c [] xs n o ≡ (silence, o) = λ n o. rw b in
      let o : Own = own (layout_of s) i (cs, rs) in
      record {
        is = sym (leaf-none (voice s) v.valid i k z c xs (cs, rs) room
            ∙ (λ j. (given-still (steps (voice s) i c [] xs) silence still o xs j, put (layout_of s) i (after-still (steps (voice s) i c [] xs) silence still o (length xs) j) (cs, rs)))
            ∙ (λ j. (sym e j, put-own (layout_of s) i (cs, rs) room.0 room.1 j)));
      }

  -- whatever stands in a value's buffer before
  played-blind : (j : ℕ) → is_value (kind s j) ≡ true → (c : Controls) (xs ys : List Float) (o : Own) → length xs ≡ length ys → played (voice s) j c xs [] o ≡ played (voice s) j c ys [] o
  unfolding played
  played-blind j e c xs ys o l =
      let r = samples-same (steps (voice s) j c [] xs) (steps (voice s) j c [] ys) (length xs) (λ k h u. value-blind s j e _ _ _ _ u) (own (layout_of s) j o) in
      let q = r ∙ ap (λ n. samples (steps (voice s) j c [] ys) n (own (layout_of s) j o)) l in
      (λ n. ((q n).0, put (layout_of s) j (q n).1 o))

  -- ---- what the walk is lent for a record and for its values
  pub leaf-none-is : (i : ℕ) → i < count_of s → is_fold (kind s i) ≡ false → kind s i ≢ 13 → values_of (kind s i) ≡ 0 → entered s i ≡ 0
  leaf-none-is i h f d z =
      let q = leaf-quiet (row_of (kind s i)).chain (leaf-chain (kind s i) f d) z in
      q.plays (begin s i) (λ e. no-links s (good s v.passed.passed) i h e)

  pub value_none : (j : ℕ) → j < count_of s → is_value (kind s j) ≡ true → entered s j ≡ 0
  value_none j h e = (value-quiet (kind s j) e).plays (begin s j) (λ q. no-links s (good s v.passed.passed) j h q)

  values-entered : (i n : ℕ) → values_of (kind s i) ≡ suc n → entered s i ≡ begin s i
  values-entered i n z = rw (leaf-values (row_of (kind s i)).chain n z)

  pub value-one : (i n : ℕ) → i < count_of s → role s i ≡ Built → values_of (kind s i) ≡ suc n → n ≤ 1 → Value s (good s v.passed.passed) i (begin s i)
  value-one i n h r z l = elim (ℕ_discrete n 0) [
    | yes e ↦ (one_value s (good s v.passed.passed) i h r (leaf-values _ 0 (z ∙ ap suc e))).0
    | no d ↦ let e : n ≡ 1 = omega arith in (two-values s (good s v.passed.passed) i h r (leaf-values _ 1 (z ∙ ap suc e))).0
  ]

  pub value-two : (i : ℕ) → i < count_of s → role s i ≡ Built → values_of (kind s i) ≡ 2 → Value s (good s v.passed.passed) i (after_of s (begin s i))
  value-two i h r z = (two-values s (good s v.passed.passed) i h r (leaf-values _ 1 z)).1

  -- ---- a leaf by its values
  pub leafed-none : (i : ℕ) → i < count_of s → tree_kind (kind s i) ≡ leaf → entered s i ≡ 0 → (c : Controls) (xs cs : List Float) (rs : List ℕ) (ys ds : List Float) (ss : List ℕ) → Sound s cs rs
      → Played s i c xs [] cs rs ys ds ss → Leafed s i c xs cs rs ys ds ss
  leafed-none i h k z c xs cs rs ys ds ss a p = record { is = p.is ∙ sym (leaf-none (voice s) v.valid i k z c xs (cs, rs) (a.room i h)) }

  quiet-length : (xs : List Float) {m : ℕ} → m ≡ length xs → m ≡ length (map (λ x. silence) xs)
  quiet-length xs e = e ∙ sym (length-map xs (λ x. silence))

  pub leafed-one : (i : ℕ) → i < count_of s → role s i ≡ Built → tree_kind (kind s i) ≡ leaf → values_of (kind s i) ≡ 1
      → (c : Controls) (xs bs cs : List Float) (rs : List ℕ) (ds es : List Float) (ss : List ℕ) (ys fs : List Float) (ts : List ℕ) → Sound s cs rs → length bs ≡ length xs
      → Played s (begin s i) c bs [] cs rs ds es ss → Played s i c xs (ds ∷ []) es ss ys fs ts → Leafed s i c xs cs rs ys fs ts
  leafed-one i h r k z c xs bs cs rs ds es ss ys fs ts a l p q =
      let g = good s v.passed.passed in
      let o = one_value s g i h r (leaf-values _ 0 z) in
      let w = o.0 in
      record {
        is = q.is
            ∙ ap (λ (t : List Float × Own). played (voice s) i c xs (t.0 ∷ []) t.1) (p.is ∙ played-blind (begin s i) w.value c bs (map (λ x. silence) xs) (cs, rs) (quiet-length xs l))
            ∙ sym (leaf-one (voice s) v.valid i k (begin s i) (values-entered i 0 z) w.some w.in_sheet (value_none (begin s i) w.in_sheet w.value) o.1 c xs (cs, rs) (a.room (begin s i) w.in_sheet) (a.room i h));
      }

  pub leafed-two : (i : ℕ) → i < count_of s → role s i ≡ Built → tree_kind (kind s i) ≡ leaf → values_of (kind s i) ≡ 2
      → (c : Controls) (xs bs us cs : List Float) (rs : List ℕ) (ds es : List Float) (ss : List ℕ) (ws fs : List Float) (ts : List ℕ) (ys gs : List Float) (rs' : List ℕ) → Sound s cs rs → length bs ≡ length xs → length us ≡ length xs
      → Played s (begin s i) c bs [] cs rs ds es ss → Played s (after_of s (begin s i)) c us [] es ss ws fs ts → Played s i c xs (ds ∷ ws ∷ []) fs ts ys gs rs' → Leafed s i c xs cs rs ys gs rs'
  leafed-two i h r k z c xs bs us cs rs ds es ss ws fs ts ys gs rs' a lb lu p q t =
      let g = good s v.passed.passed in
      let o = two-values s g i h r (leaf-values _ 1 z) in
      let x = o.0 in
      let y = o.1 in
      let quiet = map (λ x. silence) xs in
      record {
        is = t.is
            ∙ ap (λ (u : List Float × Own). played (voice s) i c xs (ds ∷ u.0 ∷ []) u.1) (q.is ∙ played-blind (after_of s (begin s i)) y.value c us quiet (es, ss) (quiet-length xs lu))
            ∙ ap (λ (u : List Float × Own). let m = played (voice s) (after_of s (begin s i)) c quiet [] u.1 in played (voice s) i c xs (u.0 ∷ m.0 ∷ []) m.1) (p.is ∙ played-blind (begin s i) x.value c bs quiet (cs, rs) (quiet-length xs lb))
            ∙ sym (leaf-two (voice s) v.valid i k (begin s i) (after_of s (begin s i)) (values-entered i 1 z) x.some x.in_sheet (value_none (begin s i) x.in_sheet x.value) refl
            y.some y.in_sheet (value_none (after_of s (begin s i)) y.in_sheet y.value) o.2 c xs (cs, rs) (a.room (begin s i) x.in_sheet) (a.room (after_of s (begin s i)) y.in_sheet) (a.room i h));
      }

  -- what a unit leaves is sound
  pub played-sound : (i : ℕ) → i < count_of s → (c : Controls) (xs : List Float) (bufs : List (List Float)) (cs : List Float) (rs : List ℕ) (ys ds : List Float) (ss : List ℕ) → Sound s cs rs
      → Played s i c xs bufs cs rs ys ds ss → Sound s ds ss
  played-sound i h c xs bufs cs rs ys ds ss a p =
      subst (All (voice s) (OwnSound s)) (sym (ap (λ (t : List Float × Own). t.1) p.is)) (played-all (voice s) v.valid (OwnSound s) v.kept i h c xs bufs (cs, rs) a)

-- ---- what is said of a value by its number in a table, and of a leaf by how many values it has
pub played-at : {s : List ℕ} {j k : ℕ} {c : Controls} {xs : List Float} {bufs : List (List Float)} {cs : List Float} {rs : List ℕ} {ys ds : List Float} {ss : List ℕ} → j ≡ k
    → Played s j c xs bufs cs rs ys ds ss → Played s k c xs bufs cs rs ys ds ss
played-at e p = rw (← e) p

pub leaf-played : (s : List ℕ) (i n : ℕ) (c : Controls) (xs v w cs : List Float) (rs : List ℕ) (ys ds : List Float) (ss : List ℕ) → values_of (kind s i) ≡ n
    → Played s i c xs (buffers_of (values_of (kind s i)) v w) cs rs ys ds ss → Played s i c xs (buffers_of n v w) cs rs ys ds ss
leaf-played s i n c xs v w cs rs ys ds ss z p = subst (λ m. Played s i c xs (buffers_of m v w) cs rs ys ds ss) z p

-- how many values a leaf has, by the tests on their number
pub leaf-two-is : (k m : ℕ) → is_fold k ≡ false → k ≢ 13 → m ≡ values_of k → m ≢ 0 → m ≢ 1 → values_of k ≡ 2
leaf-two-is k m f d e p q = let l = leaf-most (row_of k).chain (leaf-chain k f d) in omega arith

pub leaf-some : (k m : ℕ) → m ≡ values_of k → is_fold k ≡ false → k ≢ 13 → m ≢ 0 → (n : ℕ) × (values_of k ≡ suc n) × (n ≤ 1)
leaf-some k m e f d p = let l = leaf-most (row_of k).chain (leaf-chain k f d) in (m - 1, omega arith, omega arith)

-- and by what its kind's chain is made of
pub count-is : {n k m : ℕ} → chain_of (C.Values m) ≡ (row_of n).chain → n ≡ k → m ≡ values_of k
unfolding chain_of
count-is e q = ap values_in e ∙ ap values_of q

pub count-some : {n k m : ℕ} → is_fold k ≡ false → k ≢ 13 → chain_of (C.Values m) ≡ (row_of n).chain → n ≡ k → m ≢ 0
unfolding chain_of
count-some {n} {k} {m} f d e q z =
    let p : values m ≡ (row_of k).chain = e ∙ ap (λ k. (row_of k).chain) q in
    never (sym (rw (← p, z) at (leaf-chain k f d)))

pub count-none : (c : Made) {n k : ℕ} → chain_of c ≡ (row_of n).chain → ((m : ℕ) → c ≢ C.Values m) → n ≡ k → 0 ≡ values_of k
unfolding chain_of
count-none C.Empty e d q = ap values_in e ∙ ap values_of q
count-none (C.Values m) e d q = absurd (d m refl)
count-none C.Nodes e d q = ap values_in e ∙ ap values_of q
count-none C.Modes e d q = ap values_in e ∙ ap values_of q
count-none C.Steps e d q = ap values_in e ∙ ap values_of q

-- ---- a leaf: what its values are lent, and what they leave
pub record Leaf (s : List ℕ) (i : ℕ) (c : Controls) (nv nw : ℕ) : Type 0 where
  pub owned : Owned s i
  pub fold_not : is_fold (kind s i) ≡ false
  pub chain_not : kind s i ≢ 13
  pub same : nw ≡ nv
  pub early : c.position + nv < 2 ^ 64

-- the values of record i, in vs and ws, from cs and rs: whatever its unit then makes of a block of n, the leaf has made
pub record Given (s : List ℕ) (i : ℕ) (c : Controls) (n : ℕ) (cs : List Float) (rs : List ℕ) (vs ws ds : List Float) (ss : List ℕ) : Type 0 where
  pub sound : Sound s ds ss
  pub then : (xs ys es : List Float) (ts : List ℕ) → length xs ≡ n → Played s i c xs (buffers_of (values_of (kind s i)) vs ws) ds ss ys es ts → Leafed s i c xs cs rs ys es ts

module _ {s : List ℕ} (v : Voiced s) {i : ℕ} {c : Controls} {n nw : ℕ} (r : Leaf s i c n nw) where
  -- record j is value k of record i
  pub lends-value : (j k : ℕ) → j ≡ k → Value s (good s v.passed.passed) i k → {m : ℕ} → m ≡ n → Valued s j c m
  lends-value j k e w q = rw (e, q) (record { owned = record { inside = w.in_sheet; built_is = w.made }; value_is = w.value; early = r.early })

  pub given-none : {m : ℕ} → m ≡ values_of (kind s i) → m ≡ 0 → {cs : List Float} {rs : List ℕ} → Sound s cs rs → (vs ws : List Float) → Given s i c n cs rs vs ws cs rs
  given-none e z {cs} {rs} a vs ws =
      let q : values_of (kind s i) ≡ 0 = sym e ∙ z in
      record {
        sound = a;
        then = λ xs ys es ts l p. leafed-none v i r.owned.inside (leaf-is s i r.fold_not r.chain_not) (leaf-none-is v i r.owned.inside r.fold_not r.chain_not q) c xs cs rs ys es ts a (leaf-played s i 0 c xs vs ws cs rs ys es ts q p);
      }

  pub first-value : {m : ℕ} → m ≡ values_of (kind s i) → m ≢ 0 → Value s (good s v.passed.passed) i (begin s i)
  first-value e d = let q = leaf-some (kind s i) _ e r.fold_not r.chain_not d in value-one v i q.0 r.owned.inside r.owned.built_is q.1 q.2

  pub second-value : {m : ℕ} → m ≡ values_of (kind s i) → m ≢ 0 → m ≢ 1 → Value s (good s v.passed.passed) i (after_of s (begin s i))
  second-value e d f = value-two v i r.owned.inside r.owned.built_is (leaf-two-is (kind s i) _ r.fold_not r.chain_not e d f)

  pub given-one : {m : ℕ} → m ≡ values_of (kind s i) → m ≡ 1 → {j : ℕ} → j ≡ begin s i → {bs cs : List Float} {rs : List ℕ} → Sound s cs rs → length bs ≡ n → (vs ws es : List Float) (ss : List ℕ) → Played s j c bs [] cs rs vs es ss → Given s i c n cs rs vs ws es ss
  given-one e z ej {bs} {cs} {rs} a lb vs ws es ss p =
      let q : values_of (kind s i) ≡ 1 = sym e ∙ z in
      let w = value-one v i 0 r.owned.inside r.owned.built_is q (omega arith) in
      let p1 = played-at ej p in
      record {
        sound = played-sound v (begin s i) w.in_sheet c bs [] cs rs vs es ss a p1;
        then = λ xs ys fs ts l t. leafed-one v i r.owned.inside r.owned.built_is (leaf-is s i r.fold_not r.chain_not) q c xs bs cs rs vs es ss ys fs ts a (lb ∙ sym l) p1 (leaf-played s i 1 c xs vs ws es ss ys fs ts q t);
      }

  pub given-two : {m : ℕ} → m ≡ values_of (kind s i) → m ≢ 0 → m ≢ 1 → {j k : ℕ} → j ≡ begin s i → k ≡ after_of s j → {bs us cs : List Float} {rs : List ℕ} → Sound s cs rs → length bs ≡ n → length us ≡ n
      → (vs ws es : List Float) (ss : List ℕ) (fs : List Float) (ts : List ℕ) → Played s j c bs [] cs rs vs es ss → Played s k c us [] es ss ws fs ts → Given s i c n cs rs vs ws fs ts
  given-two e d f ej ek {bs} {us} {cs} {rs} a lb lu vs ws es ss fs ts p t =
      let q = leaf-two-is (kind s i) _ r.fold_not r.chain_not e d f in
      let x = first-value e d in
      let y = second-value e d f in
      let p1 = played-at ej p in
      let p2 = played-at (ek ∙ ap (after_of s) ej) t in
      let a1 = played-sound v (begin s i) x.in_sheet c bs [] cs rs vs es ss a p1 in
      record {
        sound = played-sound v (after_of s (begin s i)) y.in_sheet c us [] es ss ws fs ts a1 p2;
        then = λ xs ys gs rs' l u. leafed-two v i r.owned.inside r.owned.built_is (leaf-is s i r.fold_not r.chain_not) q c xs bs us cs rs vs es ss ws fs ts ys gs rs' a (lb ∙ sym l) (lu ∙ sym l) p1 p2 (leaf-played s i 2 c xs vs ws fs ts ys gs rs' q u);
      }
