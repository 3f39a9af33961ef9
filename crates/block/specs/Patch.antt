-- The parts together: tables of links, a layout of the flat state, and the units' own actions
use Rattle.std.specs.Prelude.{◌≡◌, ◌≢◌, length}
use Rattle.std.proofs.Math.Path.{refl, ap}
use Rattle.std.proofs.Common.{sym, ◌∙◌, subst, arith}
use mathlib.Core.List.{List, [], ◌∷◌, map}
use Prim.Native.Nat.{ℕ, ◌+◌, ◌<◌, ◌≤◌}
use Rattle.std.proofs.Math.Decide.{ℕ_discrete}
use Rattle.std.proofs.Math.ListN.{get_or}
use Rattle.std.proofs.lemmas.List.{length-map}
use Rattle.tree.specs.Comm.{M, ret, bind, blk, blk-keeps, later}
use Rattle.tree.specs.Tree.{Tree, nil, node, In, here, kid, rest, Apart, Kind, leaf, Mode, piping, Rack, Split, Made, made_bind, made_unit, made-mono, made-keeps, vals, vals-made, run, run-made, brun, brun-keeps, bstep, bone, disjoint_comm, block}
use Rattle.tree.specs.Forest.{Forest, whole, whole-nil, whole-node, whole_apart, whole-all, not-child, root, root-apart, root-all}
use Rattle.tree.specs.Flat.{Layout, Rows, Flat, Fits, Fills, own, own-fills, put, put-own, put-again, put-lengths, own-put-same, own-put-other, lift, lift-comm}
use Rattle.tree.specs.Lists.{get_or-const}
use Rattle.block.specs.Iterate.{given, after, samples, samples-same, samples-interchange, part-while, after-keeps, blk-is}

-- what is fixed between two moves
pub record Patch (T C R A : Type 0) : Type 0 where
  pub count : ℕ
  pub nx : T → T
  pub layout : Layout
  pub first : ℕ → ℕ
  pub next : ℕ → ℕ
  pub kind : ℕ → Kind A
  pub silence : A
  -- what a list gives past its end
  pub none : A
  -- record, moment, the values of its chain, input, what it owns
  pub unit : ℕ → T → List A → A → M (Flat C R) A

pub record Valid {T C R A : Type 0} (P : Patch T C R A) : Type 0 where
  pub some : 0 < P.count
  pub forest : Forest P.first P.next
  pub first_in : (i : ℕ) → P.first i ≢ 0 → P.first i < P.count
  pub next_in : (i : ℕ) → P.next i ≢ 0 → P.next i < P.count
  pub rows : Rows P.layout
  pub fits : (j : ℕ) (t : T) (vs : List A) (x : A) (p : Flat C R) → Fits P.layout j p → Fits P.layout j (P.unit j t vs x p).1
  pub keeps : (j : ℕ) (t : T) (vs : List A) (x : A) (p : Flat C R) → Fills P.layout j p → Fills P.layout j (P.unit j t vs x p).1

-- u is as long as s
pub record Long {C R : Type 0} (s u : Flat C R) : Type 0 where
  pub cells : length u.0 ≡ length s.0
  pub regs : length u.1 ≡ length s.1

long_same : {C R : Type 0} (s : Flat C R) → Long s s
long_same s = record { cells = refl; regs = refl }

long-then : {C R : Type 0} {s u w : Flat C R} → Long s u → Long u w → Long s w
long-then l m = record { cells = m.cells ∙ l.cells; regs = m.regs ∙ l.regs }

long-put : {C R : Type 0} (L : Layout) (j : ℕ) (p s : Flat C R) → Long s (put L j p s)
long-put L j p s = let l = put-lengths L j p s in record { cells = l.0; regs = l.1 }

in-none : {j : ℕ} → In j nil → ⊥
in-none = elim [ ]

-- steps on what record j owns, or on the whole
lifted : {C R A : Type 0} (L : Layout) (j : ℕ) (f : ℕ → M (Flat C R) A) → ((k : ℕ) (p : Flat C R) → Fills L j p → Fills L j (f k p).1)
    → (n : ℕ) (s : Flat C R) → L.co j + L.cn j ≤ length s.0 → L.ro j + L.rn j ≤ length s.1 → samples (λ k. lift L j (f k)) n s ≡ lift L j (samples f n) s
lifted {C} {R} {A} L j f keeps n s h g =
    let r = part-while (λ p. put L j p s) f (λ k. lift L j (f k)) (Fills L j) n (λ k l p i. (keeps k p i, turn k p i)) (own L j s) (own-fills L j s h g) in
    sym (ap (samples (λ k. lift L j (f k)) n) (put-own L j s h g)) ∙ (λ i. (r.0 i, r.1 i))
  where
    turn : (k : ℕ) (p : Flat C R) → Fills L j p → lift L j (f k) (put L j p s) ≡ ((f k p).0, put L j (f k p).1 s)
    turn k p i =
        let d = keeps k p i in
        ap {B = A × Flat C R} (λ w. ((f k w).0, put L j (f k w).1 (put L j p s))) (own-put-same L j p s i.0 i.1 h g)
        ∙ ap {B = A × Flat C R} (λ w. ((f k p).0, w)) (put-again L j p (f k p).1 s (i.0 ∙ sym d.0) (i.1 ∙ sym d.1))

module _ {T C R A : Type 0} (P : Patch T C R A) where
  abbrev pub rack : Rack T (Flat C R) A
  rack = record { nx = P.nx; silence = P.silence; kind = P.kind; unit = λ j t vs x. lift P.layout j (P.unit j t vs x) }

  -- record i with its children, and what stands after it in its chain
  abbrev pub from : ℕ → Tree
  from i = whole P.first P.next P.count i

  -- a sample of the whole
  unfoldable pub src : T → A → M (Flat C R) A
  src = run rack (root P.first P.next P.count) piping

  -- a block of record i, and of the chain that begins at record i
  unfoldable pub source : ℕ → T → List A → M (Flat C R) (List A)
  source i = bone rack (P.kind i) i (from (P.first i)) (brun rack (from (P.first i)))

  unfoldable pub along : ℕ → Mode A → T → List A → M (Flat C R) (List A)
  along i = brun rack (from i)

  -- the samples k of some buffers
  abbrev pub row : ℕ → List (List A) → List A
  row k bufs = map (λ b. get_or b k P.none) bufs

  -- a block of record j's own unit, with a buffer for each of its values
  abbrev pub steps : ℕ → T → List (List A) → List A → ℕ → Flat C R → A × Flat C R
  steps j t bufs xs k u = P.unit j (later P.nx k t) (row k bufs) (get_or xs k P.none) u

  unfoldable pub played : ℕ → T → List A → List (List A) → M (Flat C R) (List A)
  played j t xs bufs s = (given (steps j t bufs xs) (own P.layout j s) (length xs), put P.layout j (after (steps j t bufs xs) (own P.layout j s) (length xs)) s)

  -- the buffers of the values along a chain, one after the other
  unfoldable pub buffers : Tree → T → List A → M (Flat C R) (List (List A))
  buffers nil t zs = ret []
  buffers (node i a b) t zs = bind (buffers a t zs) (λ vs. bind (played i t zs vs) (λ y. bind (buffers b t zs) (λ ys. ret (y ∷ ys))))

  -- the inputs of a value
  abbrev pub quiet : List A → List A
  quiet xs = map (λ x. P.silence) xs

  -- what is lent is long enough for record j, and for the records of a tree
  abbrev pub Room : ℕ → Flat C R → Type 0
  Room j s = (P.layout.co j + P.layout.cn j ≤ length s.0) × (P.layout.ro j + P.layout.rn j ≤ length s.1)

  abbrev pub Rooms : Tree → Flat C R → Type 0
  Rooms nil s = Unit {0}
  Rooms (node i a b) s = Room i s × Rooms a s × Rooms b s

  pub room-long : (j : ℕ) {s u : Flat C R} → Long s u → Room j s → Room j u
  room-long j l h = (omega (arith, l.cells, h.0), omega (arith, l.regs, h.1))

  rooms-long : (a : Tree) {s u : Flat C R} → Long s u → Rooms a s → Rooms a u
  rooms-long nil l h = tt
  rooms-long (node i a b) l h = (room-long i l h.0, rooms-long a l h.1, rooms-long b l h.2)

  -- what is lent is long enough for every record, and G holds of what each one owns
  pub record All (G : ℕ → Flat C R → Type 0) (s : Flat C R) : Type 0 where
    pub room : (j : ℕ) → j < P.count → Room j s
    pub each : (j : ℕ) → j < P.count → G j (own P.layout j s)

  -- ---- lengths
  pub played-long : (j : ℕ) (t : T) (xs : List A) (bufs : List (List A)) (s : Flat C R) → Long s (played j t xs bufs s).1
  unfolding played
  played-long j t xs bufs s = long-put P.layout j (after (steps j t bufs xs) (own P.layout j s) (length xs)) s

  buffers-long : (a : Tree) (t : T) (zs : List A) (s : Flat C R) → Long s (buffers a t zs s).1
  unfolding buffers
  buffers-long nil t zs s = long_same s
  buffers-long (node i a b) t zs s =
      let vs = buffers a t zs s in
      let y = played i t zs vs.0 vs.1 in
      long-then (long-then (buffers-long a t zs s) (played-long i t zs vs.0 vs.1)) (buffers-long b t zs y.1)

  pub along-none : (m : Mode A) (t : T) (xs : List A) → along 0 m t xs ≡ ret xs
  unfolding brun along
  along-none m t xs = rw whole-nil

  module _ (ok : Valid P) where
    pub along-some : (i : ℕ) → i ≢ 0 → i < P.count → (m : Mode A) (t : T) (xs : List A)
        → along i m t xs ≡ bind (bstep rack m (source i) t xs) (along (P.next i) m t)
    unfolding brun along source
    along-some i d h m t xs = ap (λ (a : Tree). brun rack a m t xs) (whole-node P.first P.next ok.forest P.count ok.first_in ok.next_in i d h)

    from-apart : (i : ℕ) → Apart (from i)
    from-apart i = whole_apart P.first P.next ok.forest P.count i

    -- a record does not stand below itself
    from-below : (i : ℕ) → ¬ In i (from (P.first i))
    from-below i = not-child P.first P.next ok.forest P.count i

    split : Split rack
    split i j d t u vs ws x y = lift-comm P.layout ok.rows i j d (P.unit i t vs x) (P.unit j u ws y) (ok.fits i t vs x) (ok.fits j u ws y)

    -- sample by sample, or record by record
    pub src-is : P.next 0 ≡ 0 → (t : T) (xs : List A) → blk P.nx src t xs ≡ source 0 t xs
    unfolding src source brun bstep root
    src-is e t xs = block rack split (root P.first P.next P.count) (root-apart P.first P.next ok.forest P.count) piping t xs ∙ rw (e, whole-nil)

    -- ---- a leaf: its values, each over the whole block, then its own unit
    unit-played : (j : ℕ) (t : T) (xs : List A) (bufs : List (List A)) (s : Flat C R) → Room j s
        → samples (λ k. rack.unit j (later P.nx k t) (row k bufs) (get_or xs k P.none)) (length xs) s ≡ played j t xs bufs s
    unfolding played
    unit-played j t xs bufs s h = lifted P.layout j (steps j t bufs xs) (λ k. ok.keeps j (later P.nx k t) (row k bufs) (get_or xs k P.none)) (length xs) s h.0 h.1

    value-played : (j : ℕ) (t : T) (xs : List A) (bufs : List (List A)) (s : Flat C R) → Room j s
        → samples (λ k. rack.unit j (later P.nx k t) (row k bufs) P.silence) (length xs) s ≡ played j t (quiet xs) bufs s
    value-played j t xs bufs s h =
        samples-same (λ k. act k P.silence) (λ k. act k (get_or (quiet xs) k P.none)) (length xs)
        (λ k l u. ap (λ (x : A). act k x u) (sym (get_or-const P.silence xs k P.none l))) s
        ∙ ap (λ (n : ℕ). samples (λ k. act k (get_or (quiet xs) k P.none)) n s) (sym (length-map xs (λ x. P.silence)))
        ∙ unit-played j t (quiet xs) bufs s h
      where
        act : ℕ → A → M (Flat C R) A
        act k = rack.unit j (later P.nx k t) (row k bufs)

    -- the values of every sample first, one record after the other: g is what each sample does with its values, of units outside a
    values-block : {Y : Type 0} (a : Tree) → Apart a → (t : T) (xs : List A) (g : ℕ → List A → M (Flat C R) Y) → ((k : ℕ) (vs : List A) → Made rack (λ j. ¬ In j a) Y (g k vs))
        → (s : Flat C R) → Rooms a s
        → samples (λ k. bind (vals rack a (later P.nx k t)) (g k)) (length xs) s ≡ bind (buffers a t (quiet xs)) (λ bufs. samples (λ k. g k (row k bufs)) (length xs)) s
    unfolding vals buffers
    values-block nil h t xs g m s room = refl
    values-block {Y} (node i a b) h t xs g m s room =
        values-block a h.3 t xs (λ k vs. bind (unit k vs) (more k)) own-made s room.1
        ∙ samples-interchange (λ k. unit k (row k bufs)) more (λ k l y. disjoint_comm rack split (λ j e d. d e) (made_unit i (at k) (row k bufs) P.silence refl) (more-made l y)) P.none (length xs) s₁
        ∙ ap (λ (r : List A × Flat C R). samples (λ k. more k (get_or r.0 k P.none)) (length xs) r.1) (value-played i t xs bufs s₁ (room-long i long room.0))
        ∙ values-block b h.4 t xs (λ k vs. g k (get_or y.0 k P.none ∷ vs)) (λ k vs. made-mono rack (λ j q p. q (rest p)) (m k (get_or y.0 k P.none ∷ vs)))
        y.1 (rooms-long b (long-then long (played-long i t (quiet xs) bufs s₁)) room.2)
      where
        at : ℕ → T
        at k = later P.nx k t

        unit : ℕ → List A → M (Flat C R) A
        unit k vs = rack.unit i (at k) vs P.silence

        -- what follows the unit in its sample
        more : ℕ → A → M (Flat C R) Y
        more k y = bind (vals rack b (at k)) (λ ys. g k (y ∷ ys))

        own-made : (k : ℕ) (vs : List A) → Made rack (λ j. ¬ In j a) Y (bind (unit k vs) (more k))
        own-made k vs = made_bind (made_unit i (at k) vs P.silence h.0) (λ y. made_bind (made-mono rack (λ j q p. h.2 j p q) (vals-made rack b (at k)))
            (λ ys. made-mono rack (λ j q p. q (kid p)) (m k (y ∷ ys))))

        more-made : (k : ℕ) (y : A) → Made rack (λ j. j ≢ i) Y (more k y)
        more-made k y = made_bind (made-mono rack (λ j q e. h.1 (subst (λ n. In n b) e q)) (vals-made rack b (at k)))
            (λ ys. made-mono rack (λ j q e. q (subst (λ n. In n (node i a b)) (sym e) here)) (m k (y ∷ ys)))

        bufs : List (List A)
        bufs = (buffers a t (quiet xs) s).0

        s₁ : Flat C R
        s₁ = (buffers a t (quiet xs) s).1

        long : Long s s₁
        long = buffers-long a t (quiet xs) s

        y : List A × Flat C R
        y = played i t (quiet xs) bufs s₁

    -- whatever its values are
    pub leaf-is : (i : ℕ) → P.kind i ≡ leaf → (a : Tree) → from (P.first i) ≡ a → (t : T) (xs : List A) (s : Flat C R) → Rooms a s → Room i s
        → source i t xs s ≡ bind (buffers a t (quiet xs)) (played i t xs) s
    unfolding source bone
    leaf-is i k a e t xs s room h = rw (k, e)
        (blk-is P.nx (λ u x. bind (vals rack a u) (λ vs. rack.unit i u vs x)) P.none t xs s
        ∙ values-block a (subst Apart e (from-apart (P.first i))) t xs
        (λ n vs. rack.unit i (later P.nx n t) vs (get_or xs n P.none))
        (λ n vs. made_unit i (later P.nx n t) vs (get_or xs n P.none) (subst (λ b. ¬ In i b) e (from-below i)))
        s room
        ∙ unit-played i t xs (buffers a t (quiet xs) s).0 (buffers a t (quiet xs) s).1 (room-long i (buffers-long a t (quiet xs) s) h))

    from-none : (i : ℕ) → i ≡ 0 → from i ≡ nil
    from-none i e = rw e (whole-nil P.first P.next P.count)

    -- a value without values
    from-value : (v : ℕ) → v ≢ 0 → v < P.count → P.first v ≡ 0 → from v ≡ node v nil (from (P.next v))
    from-value v d l f = whole-node P.first P.next ok.forest P.count ok.first_in ok.next_in v d l
        ∙ ap (λ (a : Tree). node v a (from (P.next v))) (from-none (P.first v) f)

    -- without a value, with one, with two
    pub leaf-none : (i : ℕ) → P.kind i ≡ leaf → P.first i ≡ 0 → (t : T) (xs : List A) (s : Flat C R) → Room i s → source i t xs s ≡ played i t xs [] s
    unfolding buffers
    leaf-none i k e t xs s h = leaf-is i k nil (from-none (P.first i) e) t xs s tt h

    pub leaf-one : (i : ℕ) → P.kind i ≡ leaf → (v : ℕ) → P.first i ≡ v → v ≢ 0 → v < P.count → P.first v ≡ 0 → P.next v ≡ 0 → (t : T) (xs : List A) (s : Flat C R)
        → Room v s → Room i s → source i t xs s ≡ bind (played v t (quiet xs) []) (λ b. played i t xs (b ∷ [])) s
    unfolding buffers
    leaf-one i k v e d l f n t xs s hv hi = leaf-is i k (node v nil nil)
        (ap from e ∙ from-value v d l f ∙ ap (node v nil) (from-none (P.next v) n)) t xs s (hv, tt, tt) hi

    pub leaf-two : (i : ℕ) → P.kind i ≡ leaf → (v w : ℕ) → P.first i ≡ v → v ≢ 0 → v < P.count → P.first v ≡ 0 → P.next v ≡ w → w ≢ 0 → w < P.count
        → P.first w ≡ 0 → P.next w ≡ 0 → (t : T) (xs : List A) (s : Flat C R) → Room v s → Room w s → Room i s
        → source i t xs s ≡ bind (played v t (quiet xs) []) (λ b. bind (played w t (quiet xs) []) (λ d. played i t xs (b ∷ d ∷ []))) s
    unfolding buffers
    leaf-two i k v w e dv lv fv n dw lw fw nw t xs s hv hw hi = leaf-is i k (node v nil (node w nil nil))
        (ap from e ∙ from-value v dv lv fv ∙ ap (node v nil) (ap from n ∙ from-value w dw lw fw ∙ ap (node w nil) (from-none (P.next w) nw)))
        t xs s (hv, tt, (hw, tt, tt)) hi

    source-apart : (i : ℕ) → Apart (node i (from (P.first i)) nil)
    source-apart i = (from-below i, in-none, (λ j p q. in-none q), from-apart (P.first i), tt)

    -- the records that run are of the patch
    in_source : (i : ℕ) → i < P.count → (j : ℕ) → In j (node i (from (P.first i)) nil) → j < P.count
    in_source i h j (rest x4) = elim x4 [ ]
    in_source i h j here = h
    in_source i h j (kid p) = whole-all P.first P.next (λ k. k < P.count) (λ k l. ok.first_in k) (λ k l. ok.next_in k) P.count (P.first i) (ok.first_in i) p

    -- ---- what each unit keeps of what it owns
    module _ (G : ℕ → Flat C R → Type 0)
        (kept : (j : ℕ) → j < P.count → (t : T) (vs : List A) (x : A) (p : Flat C R) → Fills P.layout j p → G j p → G j (P.unit j t vs x p).1) where
      all-put : (j : ℕ) → j < P.count → (p s : Flat C R) → Fills P.layout j p → G j p → All G s → All G (put P.layout j p s)
      all-put j h p s f g a = record {
        room = λ k l. room-long k (long-put P.layout j p s) (a.room k l);
        each = λ k l. elim (ℕ_discrete j k) [
          | yes e ↦ subst (λ n. G n (own P.layout n (put P.layout j p s))) e
              (subst (G j) (sym (own-put-same P.layout j p s f.0 f.1 (a.room j h).0 (a.room j h).1)) g)
          | no d ↦ subst (G k) (sym (own-put-other P.layout ok.rows j k d p s (omega (arith, f.0), omega (arith, f.1)))) (a.each k l)
        ];
      }

      own-full : (j : ℕ) → j < P.count → (s : Flat C R) → All G s → Fills P.layout j (own P.layout j s)
      own-full j h s a = own-fills P.layout j s (a.room j h).0 (a.room j h).1

      unit-all : (j : ℕ) (t : T) (vs : List A) (x : A) (s : Flat C R) → j < P.count → All G s → All G (rack.unit j t vs x s).1
      unit-all j t vs x s h a =
          let p = own P.layout j s in
          let f : Fills P.layout j p = own-full j h s a in
          all-put j h (P.unit j t vs x p).1 s (ok.keeps j t vs x p f) (kept j h t vs x p f (a.each j h)) a

      pub played-all : (j : ℕ) → j < P.count → (t : T) (xs : List A) (bufs : List (List A)) (s : Flat C R) → All G s → All G (played j t xs bufs s).1
      unfolding played
      played-all j h t xs bufs s a =
          let r = after-keeps (λ p. Fills P.layout j p × G j p) (steps j t bufs xs) turn (own P.layout j s) (own-full j h s a, a.each j h) (length xs) in
          all-put j h (after (steps j t bufs xs) (own P.layout j s) (length xs)) s r.0 r.1 a
        where
          turn : (k : ℕ) (p : Flat C R) → Fills P.layout j p × G j p → Fills P.layout j (steps j t bufs xs k p).1 × G j (steps j t bufs xs k p).1
          turn k p (f, g) =
              let u = later P.nx k t in
              let vs = row k bufs in
              let x = get_or xs k P.none in
              (ok.keeps j u vs x p f, kept j h u vs x p f g)

      pub src-all : (t : T) (x : A) (s : Flat C R) → All G s → All G (src t x s).1
      unfolding src
      src-all t x s a = made-keeps rack (All G) (λ j u vs y w p. unit-all j u vs y w
          (root-all P.first P.next (λ k. k < P.count) (λ k l. ok.first_in k) (λ k l. ok.next_in k) P.count ok.some p))
          (run-made rack (root P.first P.next P.count) piping t x) s a

      pub blk-all : (t : T) (xs : List A) (s : Flat C R) → All G s → All G (blk P.nx src t xs s).1
      blk-all t xs s a = blk-keeps P.nx (All G) src src-all t xs s a

      pub source-all : (i : ℕ) → i < P.count → (t : T) (xs : List A) (s : Flat C R) → All G s → All G (source i t xs s).1
      unfolding source brun bstep
      source-all i h t xs s a = brun-keeps rack split (All G) (node i (from (P.first i)) nil) (source-apart i)
          (λ j u vs x w p. unit-all j u vs x w (in_source i h j p)) piping t xs s a
