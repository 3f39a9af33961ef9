-- A block: n values of a function of the index. One law for every block loop.
use Rattle.std.specs.Prelude.{◌≡◌, length, drop, set, get_or}
use Rattle.std.proofs.Math.Path.{refl, sym}
use Rattle.std.proofs.Common.{◌∙◌, eq-or-lt_of_le, add-one, length-set, length-append, drop_of_length-le, ext_get_or}
use mathlib.Core.List.{List, [], ◌∷◌, ◌++◌, append_assoc, append-nil}
use Rattle.std.proofs.Math.Logic.{⊎_elim}
use Prim.Native.Nat.{ℕ, zero, suc, ◌+◌, ◌≤◌, ◌<◌}
use native.Mathlib.Omega.{arith}
use Rattle.std.proofs.Math.ListN.{get_or-append}
use Rattle.std.proofs.Math.Seq.{drop-cons}
use Rattle.std.proofs.lemmas.List.{set_at, get_or_at}

module _ {A : Type 0} where
  -- f 0, f 1, .., f (n - 1)
  unfoldable pub tab : ℕ → (ℕ → A) → List A
  tab zero f = []
  tab (suc n) f = tab n f ++ (f n ∷ [])

  pub length-tab : (n : ℕ) (f : ℕ → A) → length (tab n f) ≡ n
  unfolding tab
  length-tab zero f = refl
  length-tab (suc n) f = simp (length-append, length-tab n f) (omega arith)

  pub tab-eq : (n : ℕ) (f g : ℕ → A) → ((k : ℕ) → k < n → f k ≡ g k) → tab n f ≡ tab n g
  unfolding tab
  tab-eq zero f g e = refl
  tab-eq (suc n) f g e = λ i. tab-eq n f g (λ k h. e k (omega arith)) i ++ (e n (omega arith) i ∷ [])

  -- the loop's invariant where it begins
  pub tab-none : (f : ℕ → A) (d : List A) → d ≡ tab 0 f ++ drop 0 d
  unfolding tab
  tab-none f d = refl

  -- a turn stores f n at n
  pub tab-more : (f : ℕ → A) (d : List A) (n : ℕ) → n < length d → set (tab n f ++ drop n d) n (f n) ≡ tab (n + 1) f ++ drop (n + 1) d
  unfolding tab
  tab-more f d n h =
      rw (add-one, drop-cons d n (f n)) (set_at (tab n f) (get_or d n (f n)) (drop (suc n) d) (f n) n (length-tab n f) ∙ sym (append_assoc (tab n f) (f n ∷ []) (drop (suc n) d)))

  -- the loop's end
  pub tab-all : (f : ℕ → A) (d : List A) (n : ℕ) → length d ≤ n → tab n f ++ drop n d ≡ tab n f
  tab-all f d n h = rw (drop_of_length-le d h) (append-nil (tab n f))

  -- THE INVARIANT of a loop that fills d from the front: out is f 0 .. f (n - 1), then what d had
  pub record Filled (f : ℕ → A) (d out : List A) (n : ℕ) : Type 0 where
    pub long : length out ≡ length d
    pub within : n ≤ length d
    pub is : out ≡ tab n f ++ drop n d

  pub fill_start : (f : ℕ → A) (d : List A) → Filled f d d 0
  fill_start f d = record { long = refl; within = omega arith; is = tab-none f d }

  pub fill-turn : {f : ℕ → A} {d out : List A} {n : ℕ} → Filled f d out n → n < length d → {v : A} → v ≡ f n → Filled f d (set out n v) (n + 1)
  fill-turn {f} {d} {out} {n} i h {v} w =
      record { long = length-set out n v ∙ i.long; within = omega arith; is = rw (i.is, w) (tab-more f d n h) }

  pub fill_end : {f : ℕ → A} {d out : List A} {n : ℕ} → Filled f d out n → length d ≤ n → out ≡ tab (length d) f
  fill_end {f} {d} {out} {n} i h =
      let z : length d ≡ n = omega arith in
      rw (i.is, z) (tab-all f d n h)

  -- what is not filled yet is as it was
  pub fill-rest : {f : ℕ → A} {d out : List A} {n : ℕ} → Filled f d out n → n < length d → (z : A) → get_or out n z ≡ get_or d n z
  fill-rest {f} {d} {out} {n} i h z =
      rw (i.is, drop-cons d n z h) (get_or_at (tab n f) (get_or d n z) (drop (suc n) d) z n (length-tab n f))

  pub get_or-tab : (n : ℕ) (f : ℕ → A) (k : ℕ) (z : A) → k < n → get_or (tab n f) k z ≡ f k
  unfolding tab
  get_or-tab zero f k z h = let x : ⊥ = omega arith in absurd x
  get_or-tab (suc n) f k z h =
      let le : k ≤ n = omega arith in
      ⊎_elim
      (λ e. rw e (get_or_at (tab n f) (f n) [] z n (length-tab n f)))
      (λ g. get_or-append (tab n f) (f n ∷ []) z k (rw length-tab g) ∙ get_or-tab n f k z g)
      (eq-or-lt_of_le le)

  pub tab-is : (z : A) (l : List A) → tab (length l) (λ k. get_or l k z) ≡ l
  tab-is z l = ext_get_or z _ _ (length-tab _ _) (λ k h. get_or-tab _ _ k z (rw length-tab at h))
