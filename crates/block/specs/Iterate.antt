-- A block of samples: a step taken once for each, in order, the k-th with its own inputs. A step takes the state and gives a sample and the next state.
use Rattle.std.specs.Prelude.{◌≡◌, get_or, Float}
use Rattle.std.proofs.Math.Path.{refl, sym, ap}
use Rattle.std.proofs.Common.{◌∙◌, add-suc}
use mathlib.Core.List.{List, [], ◌∷◌, ◌++◌, map, append_assoc, append-nil}
use Prim.Native.Nat.{ℕ, zero, suc, ◌+◌, ◌<◌}
use Rattle.std.proofs.Math.Nat.{add-zero}
use Rattle.std.proofs.Math.Numerals.{add-one}
use native.Mathlib.Omega.{arith}
use Rattle.std.proofs.Math.ListN.{length}
use Rattle.std.specs.Float.{nan}
use Rattle.tree.specs.Comm.{M, ret, bind, Comm, comm-sym, comm-then, comm-ret, comm-bind, blk, later}
use Rattle.tree.specs.Block.{tab, length-tab, get_or-tab, tab-eq}
use Rattle.tree.specs.Lists.{tab-same, map-const}

-- sample k of a buffer
abbrev pub at : List Float → ℕ → Float
at xs k = get_or xs k nan

-- word k of a list
abbrev pub word : List ℕ → ℕ → ℕ
word ws k = get_or ws k 0

module _ {S A : Type 0} where
  -- the state after n samples
  unfoldable pub after : (ℕ → S → A × S) → S → ℕ → S
  after f s zero = s
  after f s (suc n) = (f n (after f s n)).1

  -- sample k, and the first n samples
  abbrev pub sample_at : (ℕ → S → A × S) → S → ℕ → A
  sample_at f s k = (f k (after f s k)).0

  unfoldable pub given : (ℕ → S → A × S) → S → ℕ → List A
  given f s n = tab n (sample_at f s)

  -- the steps from the m-th on
  abbrev pub from : ℕ → (ℕ → S → A × S) → ℕ → S → A × S
  from m f k s = f (m + k) s

  -- ---- the empty block, one sample more, as many samples as steps
  pub after_none : (f : ℕ → S → A × S) (s : S) → after f s 0 ≡ s
  unfolding after
  after_none f s = refl

  pub given-none : (f : ℕ → S → A × S) (s : S) → given f s 0 ≡ []
  unfolding given tab
  given-none f s = refl

  pub after_more : (f : ℕ → S → A × S) (s : S) (n : ℕ) → after f s (n + 1) ≡ (f n (after f s n)).1
  unfolding after
  after_more f s n = rw add-one

  pub given-more : (f : ℕ → S → A × S) (s : S) (n : ℕ) → given f s (n + 1) ≡ given f s n ++ (sample_at f s n ∷ [])
  unfolding given tab
  given-more f s n = rw add-one

  pub given-length : (f : ℕ → S → A × S) (s : S) (n : ℕ) → length (given f s n) ≡ n
  unfolding given
  given-length f s n = length-tab n (sample_at f s)

  pub given-at : (f : ℕ → S → A × S) (s : S) (n k : ℕ) (d : A) → k < n → get_or (given f s n) k d ≡ sample_at f s k
  unfolding given
  given-at f s n k d h = get_or-tab n (sample_at f s) k d h

  -- ---- a block cut in two
  pub after-cut : (f : ℕ → S → A × S) (s : S) (m n : ℕ) → after f s (m + n) ≡ after (from m f) (after f s m) n
  unfolding after
  after-cut f s m zero = rw add-zero
  after-cut f s m (suc n) = ap (after f s) (add-suc m n) ∙ ap (λ (u : S). (f (m + n) u).1) (after-cut f s m n)

  pub given-cut : (f : ℕ → S → A × S) (s : S) (m n : ℕ) → given f s (m + n) ≡ given f s m ++ given (from m f) (after f s m) n
  unfolding given tab
  given-cut f s m zero = rw add-zero (sym (append-nil (tab m (sample_at f s))))
  given-cut f s m (suc n) =
      ap (λ (k : ℕ). tab k (sample_at f s)) (add-suc m n)
      ∙ ap (λ (l : List A). l ++ (sample_at f s (m + n) ∷ [])) (given-cut f s m n)
      ∙ append_assoc (tab m (sample_at f s)) (tab n (sample_at (from m f) (after f s m))) (sample_at f s (m + n) ∷ [])
      ∙ ap (λ (u : S). tab m (sample_at f s) ++ (tab n (sample_at (from m f) (after f s m)) ++ ((f (m + n) u).0 ∷ []))) (after-cut f s m n)

  -- ---- steps that agree below n
  pub after_same : (f g : ℕ → S → A × S) (s : S) (n : ℕ) → ((k : ℕ) → k < n → (u : S) → f k u ≡ g k u) → after f s n ≡ after g s n
  unfolding after
  after_same f g s zero e = refl
  after_same f g s (suc n) e = ap (λ (u : S). (f n u).1) (after_same f g s n (λ k h. e k (omega arith))) ∙ ap (λ (p : A × S). p.1) (e n (omega arith) (after g s n))

  pub given-same : (f g : ℕ → S → A × S) (s : S) (n : ℕ) → ((k : ℕ) → k < n → (u : S) → f k u ≡ g k u) → given f s n ≡ given g s n
  unfolding given
  given-same f g s n e = tab-eq n (sample_at f s) (sample_at g s)
      (λ k h. ap (λ (u : S). (f k u).0) (after_same f g s k (λ j l. e j (omega arith))) ∙ ap (λ (p : A × S). p.0) (e k h (after g s k)))

  -- ---- steps that all give y and leave the state as it is
  pub after-still : (f : ℕ → S → A × S) (y : A) → ((k : ℕ) (s : S) → f k s ≡ (y, s)) → (s : S) (n : ℕ) → after f s n ≡ s
  unfolding after
  after-still f y e s zero = refl
  after-still f y e s (suc n) = ap (λ (p : A × S). p.1) (e n (after f s n)) ∙ after-still f y e s n

  pub given-still : (f : ℕ → S → A × S) (y : A) → ((k : ℕ) (s : S) → f k s ≡ (y, s)) → (s : S) (xs : List A) → given f s (length xs) ≡ map (λ x. y) xs
  unfolding given
  given-still f y e s xs =
      tab-eq (length xs) (sample_at f s) (λ k. y) (λ k h. ap (λ (p : A × S). p.0) (e k (after f s k))) ∙ tab-same (length xs) y ∙ sym (map-const y xs)

  -- ---- an action that gives the first n samples
  abbrev pub samples : (ℕ → S → A × S) → ℕ → M S (List A)
  samples f n s = (given f s n, after f s n)

  pub samples-same : (f g : ℕ → S → A × S) (n : ℕ) → ((k : ℕ) → k < n → (u : S) → f k u ≡ g k u) → (s : S) → samples f n s ≡ samples g n s
  samples-same f g n e s = λ i. (given-same f g s n e i, after_same f g s n e i)

-- ---- two actions for each sample: first all of the one, then all of the other
module _ {S : Type 0} where
  pub samples-comm : {Y Z : Type 0} (f : ℕ → M S Y) (g : M S Z) → ((k : ℕ) → Comm (f k) g) → (n : ℕ) → Comm (samples f n) g
  unfolding given after tab
  samples-comm f g c zero = comm-ret []
  samples-comm f g c (suc n) = comm-bind (samples-comm f g c n) (λ ys. comm-bind (c n) (λ y. comm-ret (ys ++ (y ∷ []))))

  pub samples-interchange : {Y Z : Type 0} (f : ℕ → M S Y) (g : ℕ → Y → M S Z) → ((k j : ℕ) (y : Y) → Comm (f k) (g j y)) → (d : Y) (n : ℕ) (s : S)
      → samples (λ k. bind (f k) (g k)) n s ≡ bind (samples f n) (λ ys. samples (λ k. g k (get_or ys k d)) n) s
  unfolding given after tab
  samples-interchange {Y} {Z} f g c d n s = go n ∙ samples-same then (λ k. g k (get_or (given f s n) k d)) n (λ k h u. ap (λ (y : Y). g k y u) (sym (given-at f s n k d h))) (after f s n)
    where
      then : ℕ → M S Z
      then k = g k (sample_at f s k)

      go : (n : ℕ) → samples (λ k. bind (f k) (g k)) n s ≡ samples then n (after f s n)
      go zero = refl
      go (suc n) = ap (λ (r : List Z × S). bind (f n) (λ y. bind (g n y) (λ z. ret (r.0 ++ (z ∷ [])))) r.1) (go n)
          ∙ (λ i. comm-then (samples-comm then (f n) (λ k. comm-sym (c n k (sample_at f s k))) n) (λ zs y. bind (g n y) (λ z. ret (zs ++ (z ∷ [])))) i (after f s n))

-- ---- the same steps on another state, of which the first is a part
module _ {S U A : Type 0} (φ : S → U) (f : ℕ → S → A × S) (g : ℕ → U → A × U) where
  -- for states of which something holds that the steps keep
  pub part-while : (Inv : S → Type 0) (n : ℕ) → ((k : ℕ) → k < n → (s : S) → Inv s → Inv (f k s).1 × (g k (φ s) ≡ ((f k s).0, φ (f k s).1)))
      → (s : S) → Inv s → (given g (φ s) n ≡ given f s n) × (after g (φ s) n ≡ φ (after f s n)) × Inv (after f s n)
  unfolding given after tab
  part-while Inv zero e s i = (refl, refl, i)
  part-while Inv (suc n) e s i =
      let r = part-while Inv n (λ k h. e k (omega arith)) s i in
      let t = e n (omega arith) (after f s n) r.2 in
      let now : g n (after g (φ s) n) ≡ ((f n (after f s n)).0, φ (f n (after f s n)).1) = ap (g n) r.1 ∙ t.1 in
      (λ j. r.0 j ++ ((now j).0 ∷ []), ap (λ (p : A × U). p.1) now, t.0)

  pub part_in : (n : ℕ) → ((k : ℕ) → k < n → (s : S) → g k (φ s) ≡ ((f k s).0, φ (f k s).1))
      → (s : S) → (given g (φ s) n ≡ given f s n) × (after g (φ s) n ≡ φ (after f s n))
  part_in n e s = let r = part-while (λ u. Unit {0}) n (λ k h u i. (tt, e k h u)) s tt in (r.0, r.1)

-- what each step keeps holds after all of them
pub after-keeps : {S A : Type 0} (Inv : S → Type 0) (f : ℕ → S → A × S) → ((k : ℕ) (s : S) → Inv s → Inv (f k s).1) → (s : S) → Inv s → (n : ℕ) → Inv (after f s n)
after-keeps Inv f e s i n = (part-while (λ u. u) f f Inv n (λ k h u j. (e k u j, refl)) s i).2

-- ---- as the theory of trees has it: inputs in a list, moments one after another
module _ {T S X A : Type 0} (nx : T → T) (f : T → X → M S A) (d : X) where
  abbrev pub steps_of : T → List X → ℕ → S → A × S
  steps_of t xs k s = f (later nx k t) (get_or xs k d) s

  shifted : (t : T) (x : X) (xs : List X) (k : ℕ) (s : S) → steps_of t (x ∷ xs) (1 + k) s ≡ steps_of (nx t) xs k s
  unfolding later
  shifted t x xs k s = let e : 1 + k ≡ suc k = omega arith in rw e

  pub blk-is : (t : T) (xs : List X) (s : S) → blk nx f t xs s ≡ (given (steps_of t xs) s (length xs), after (steps_of t xs) s (length xs))
  unfolding blk given after tab later
  blk-is t [] s = refl
  blk-is t (x ∷ xs) s =
      let u = (f t x s).1 in
      let more : 1 + length xs ≡ suc (length xs) = omega arith in
      ap {B = List A × S} (λ p. ((f t x s).0 ∷ p.0, p.1)) (blk-is (nx t) xs u)
      ∙ sym
      (λ i. (
        (ap (given (steps_of t (x ∷ xs)) s) (sym more) ∙ given-cut (steps_of t (x ∷ xs)) s 1 (length xs) ∙ ap (λ (l : List A). (f t x s).0 ∷ l) (given-same (from 1 (steps_of t (x ∷ xs))) (steps_of (nx t) xs) u (length xs) (λ k h v. shifted t x xs k v))) i,
        (ap (after (steps_of t (x ∷ xs)) s) (sym more) ∙ after-cut (steps_of t (x ∷ xs)) s 1 (length xs) ∙ after_same (from 1 (steps_of t (x ∷ xs))) (steps_of (nx t) xs) u (length xs) (λ k h v. shifted t x xs k v)) i,
      ))
