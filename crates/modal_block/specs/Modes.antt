-- Modal's modes own cells apart from each other, so they commute; and a mode over a few samples needs its cells only before and after.
-- So mode after mode, each over all the samples, gives what sample after sample gives.
use Rattle.std.specs.Prelude.{◌≡◌, refl, ℕ, zero, suc, ◌+◌, ◌*◌, ◌<◌, length, get_or, replicate, Float}
use Rattle.std.proofs.Math.Path.{sym, ap}
use Rattle.std.proofs.Common.{◌∙◌}
use mathlib.Core.List.{List, [], ◌∷◌, ◌++◌, map, map-append}
use native.Mathlib.Omega.{arith}
use Rattle.std.proofs.Math.ListN.{set, length-set, get_or-map}
use Rattle.std.proofs.lemmas.List.{length-map}
use Rattle.std.proofs.Math.Seq.{get_or-set_same, get_or-set_other, set-set, set-get_or}
use Rattle.std.proofs.lemmas.List.{set_comm}
use Rattle.std.specs.Float.Ieee.{nan}
use Rattle.float.specs.Single.{◌⊕◌}
use Rattle.float.specs.Single as single
use Rattle.tree.specs.Comm.{M, both, both', Comm, blk, blk-ret, blk-sim-in}
use Rattle.tree.specs.Block.{tab}
use Rattle.tree.specs.Lists.{map-const}
use Rattle.block.specs.Bank.{units}
use Rattle.block.specs.Iterate.{at, after, given, sample_at, after_same, given-same, blk-is}
use Rattle.proc.specs.declared.Mode.{Mode}
use Rattle.proc.specs.Effects.{mode_of}
use Rattle.modal_block.specs.Modal.{mode_at, put_mode, mode_step, modes}
use Rattle.modal_block.specs.Interchange.{over, bank_of, bank-more}

-- an item is the input and the sum so far
abbrev pub Item : Type 0
Item = Float × Float

unfoldable pub mode_act : ℕ → Item → M (List Float) Item
mode_act k p cs = let o = mode_of (mode_at cs k) p.0 in ((p.0, p.1 ⊕ o.0), put_mode cs k o.1)

-- ---- a mode reads and writes only its own cells
other : (cs : List Float) (i : ℕ) (m : Mode) (j : ℕ) → (j ≡ 5 * i + 3 → ⊥) → (j ≡ 5 * i + 4 → ⊥) → at (put_mode cs i m) j ≡ at cs j
unfolding put_mode
other cs i m j h l = get_or-set_other (set cs (5 * i + 3) m.y1) (5 * i + 4) j m.y2 nan l ∙ get_or-set_other cs (5 * i + 3) j m.y1 nan h

apart : (cs : List Float) (i k : ℕ) (m : Mode) → ((j : ℕ) → j < 5 → (5 * k + j ≡ 5 * i + 3 → ⊥) × (5 * k + j ≡ 5 * i + 4 → ⊥)) → mode_at (put_mode cs i m) k ≡ mode_at cs k
apart cs i k m h =
    let e : 5 * k + 0 ≡ 5 * k = omega arith in
    let a : at (put_mode cs i m) (5 * k) ≡ at cs (5 * k) = rw e at (one 0 (omega arith)) in
    λ t. record { a1 = a t; a2 = one 1 (omega arith) t; b0 = one 2 (omega arith) t; y1 = one 3 (omega arith) t; y2 = one 4 (omega arith) t }
  where
    one : (j : ℕ) → j < 5 → at (put_mode cs i m) (5 * k + j) ≡ at cs (5 * k + j)
    one j l = other cs i m (5 * k + j) (h j l).0 (h j l).1

before : (cs : List Float) (i k : ℕ) (m : Mode) → i < k → mode_at (put_mode cs i m) k ≡ mode_at cs k
before cs i k m h = apart cs i k m (λ j l. (omega arith, omega arith))

behind : (cs : List Float) (i k : ℕ) (m : Mode) → i < k → mode_at (put_mode cs k m) i ≡ mode_at cs i
behind cs i k m h = apart cs k i m (λ j l. (omega arith, omega arith))

put-comm : (cs : List Float) (i k : ℕ) (m n : Mode) → i < k → put_mode (put_mode cs i m) k n ≡ put_mode (put_mode cs k n) i m
unfolding put_mode
put-comm cs i k m n h =
    let a = 5 * i + 3 in
    let b = 5 * i + 4 in
    let c = 5 * k + 3 in
    let d = 5 * k + 4 in
    let bc : b ≡ c → ⊥ = omega arith in
    let bd : b ≡ d → ⊥ = omega arith in
    let ac : a ≡ c → ⊥ = omega arith in
    let ad : a ≡ d → ⊥ = omega arith in
    ap (λ (l : List Float). set l d n.y2) (set_comm (set cs a m.y1) b c m.y2 n.y1 bc ∙ ap (λ (l : List Float). set l b m.y2) (set_comm cs a c m.y1 n.y1 ac))
    ∙ set_comm (set (set cs c n.y1) a m.y1) b d m.y2 n.y2 bd
    ∙ ap (λ (l : List Float). set l b m.y2) (set_comm (set cs c n.y1) a d m.y1 n.y2 ad)

swapped : (i k : ℕ) (p q : Item) → i < k → (cs : List Float) → both (mode_act i p) (mode_act k q) cs ≡ both' (mode_act i p) (mode_act k q) cs
unfolding mode_act
swapped i k p q h cs =
    let a = mode_of (mode_at cs i) p.0 in
    let b = mode_of (mode_at cs k) q.0 in
    let r = before cs i k a.1 h in
    let s = behind cs i k b.1 h in
    (λ t. (((p.0, p.1 ⊕ a.0), (q.0, q.1 ⊕ (mode_of (r t) q.0).0)), put_mode (put_mode cs i a.1) k (mode_of (r t) q.0).1))
    ∙ (λ t. (((p.0, p.1 ⊕ a.0), (q.0, q.1 ⊕ b.0)), put-comm cs i k a.1 b.1 h t))
    ∙ sym (λ t. (((p.0, p.1 ⊕ (mode_of (s t) p.0).0), (q.0, q.1 ⊕ b.0)), put_mode (put_mode cs k b.1) i (mode_of (s t) p.0).1))

pub mode-comm : (i k : ℕ) (p q : Item) → i < k → Comm (mode_act i p) (mode_act k q)
mode-comm i k p q h = record { swap = λ t cs. swapped i k p q h cs t }

-- ---- a mode over some samples, beside the cells
abbrev pub local_act : Item → M Mode Item
local_act p m = let o = mode_of m p.0 in ((p.0, p.1 ⊕ o.0), o.1)

module _ (cs : List Float) (k : ℕ) (fits : 5 * k + 4 < length cs) where
  abbrev Coefs : Mode → Type 0
  Coefs m = (m.a1 ≡ at cs (5 * k)) × (m.a2 ≡ at cs (5 * k + 1)) × (m.b0 ≡ at cs (5 * k + 2))

  mode-put : (m : Mode) → Coefs m → mode_at (put_mode cs k m) k ≡ m
  unfolding put_mode
  mode-put m c =
      let ds = set cs (5 * k + 3) m.y1 in
      let apart : 5 * k + 3 ≡ 5 * k + 4 → ⊥ = omega arith in
      let a1 : at (put_mode cs k m) (5 * k) ≡ m.a1 = other cs k m (5 * k) (omega arith) (omega arith) ∙ sym c.0 in
      let a2 : at (put_mode cs k m) (5 * k + 1) ≡ m.a2 = other cs k m (5 * k + 1) (omega arith) (omega arith) ∙ sym c.1 in
      let b0 : at (put_mode cs k m) (5 * k + 2) ≡ m.b0 = other cs k m (5 * k + 2) (omega arith) (omega arith) ∙ sym c.2 in
      let y1 : at (put_mode cs k m) (5 * k + 3) ≡ m.y1 = get_or-set_other ds (5 * k + 4) (5 * k + 3) m.y2 nan apart ∙ get_or-set_same cs (5 * k + 3) m.y1 nan (omega arith) in
      let y2 : at (put_mode cs k m) (5 * k + 4) ≡ m.y2 = get_or-set_same ds (5 * k + 4) m.y2 nan (omega (arith, length-set cs (5 * k + 3) m.y1)) in
      λ t. record { a1 = a1 t; a2 = a2 t; b0 = b0 t; y1 = y1 t; y2 = y2 t }

  put-put : (m n : Mode) → put_mode (put_mode cs k m) k n ≡ put_mode cs k n
  unfolding put_mode
  put-put m n =
      let a = 5 * k + 3 in
      let b = 5 * k + 4 in
      let ba : b ≡ a → ⊥ = omega arith in
      ap (λ (l : List Float). set l b n.y2) (set_comm (set cs a m.y1) b a m.y2 n.y1 ba ∙ ap (λ (l : List Float). set l b m.y2) (set-set cs a m.y1 n.y1))
      ∙ set-set (set cs a n.y1) b m.y2 n.y2

  put_self : put_mode cs k (mode_at cs k) ≡ cs
  unfolding put_mode
  put_self = ap (λ (l : List Float). set l (5 * k + 4) (at cs (5 * k + 4))) (set-get_or cs (5 * k + 3) nan) ∙ set-get_or cs (5 * k + 4) nan

  act-put : (p : Item) (m : Mode) → Coefs m → mode_act k p (put_mode cs k m) ≡ ((local_act p m).0, put_mode cs k (local_act p m).1)
  unfolding mode_act
  act-put p m c = let r = mode-put m c in λ t. ((p.0, p.1 ⊕ (mode_of (r t) p.0).0), put-put m (mode_of (r t) p.0).1 t)

  coefs-kept : (p : Item) (m : Mode) → Coefs m → Coefs (local_act p m).1
  unfolding mode_of
  coefs-kept p m c = c

  pub over-local : (ps : List Item) → over (mode_act k) ps cs ≡ ((over local_act ps (mode_at cs k)).0, put_mode cs k (over local_act ps (mode_at cs k)).1)
  over-local ps =
      ap (over (mode_act k) ps) (sym put_self)
      ∙ blk-sim-in (λ (u : Unit {0}). u) Coefs (put_mode cs k) (λ u p. local_act p) (λ u p. mode_act k p) (λ u p m c. coefs-kept p m c) (λ u p m c. act-put p m c) tt ps (mode_at cs k) (refl, refl, refl)

-- ---- the items of some samples: no mode yet, and mode k after those before it
abbrev pub items_of : List Float → List Item
items_of xs = map (λ x. (x, single.zero)) xs

abbrev pub inputs : List Item → List Float
inputs ps = map (λ (p : Item). p.0) ps

abbrev pub sums : List Item → List Float
sums ps = map (λ (p : Item). p.1) ps

abbrev pub so_far : List Float → List Float → ℕ → List Item × List Float
so_far xs cs k = over (bank_of mode_act k) (items_of xs) cs

-- n modes for sample k
abbrev pub modes_step : ℕ → List Float → ℕ → List Float → Float × List Float
modes_step n xs k cs = modes (at xs k) cs n

-- mode k for sample j, added to its sum
unfoldable pub mode_turn : List Float → List Float → ℕ → Mode → Float × Mode
mode_turn xs ws j m = let o = mode_of m (at xs j) in (at ws j ⊕ o.0, o.1)

-- ---- the inputs stay
bank-input : (n : ℕ) (p : Item) (cs : List Float) → (bank_of mode_act n p cs).0.0 ≡ p.0
unfolding bank_of mode_act
bank-input zero p cs = refl
bank-input (suc n) p cs = bank-input n p cs

over-inputs : (k : ℕ) (ps : List Item) (cs : List Float) → inputs (over (bank_of mode_act k) ps cs).0 ≡ inputs ps
unfolding blk
over-inputs k [] cs = refl
over-inputs k (p ∷ ps) cs = λ i. bank-input k p cs i ∷ over-inputs k ps (bank_of mode_act k p cs).1 i

items-inputs : (xs : List Float) → inputs (items_of xs) ≡ xs
items-inputs [] = refl
items-inputs (x ∷ xs) = ap (λ (l : List Float). x ∷ l) (items-inputs xs)

so_far-inputs : (xs cs : List Float) (k : ℕ) → inputs (so_far xs cs k).0 ≡ xs
so_far-inputs xs cs k = over-inputs k (items_of xs) cs ∙ items-inputs xs

-- ---- steps of which only a part of the sample is kept
module _ {S A B : Type 0} (h : A → B) (f : ℕ → S → A × S) where
  abbrev part : ℕ → S → B × S
  part k s = (h (f k s).0, (f k s).1)

  after-part : (s : S) (n : ℕ) → after part s n ≡ after f s n
  unfolding after
  after-part s zero = refl
  after-part s (suc n) = ap (λ (u : S). (f n u).1) (after-part s n)

  given-part : (s : S) (n : ℕ) → given part s n ≡ map h (given f s n)
  unfolding given tab
  given-part s zero = refl
  given-part s (suc n) =
      (λ i. given-part s n i ++ (h (f n (after-part s n i)).0 ∷ [])) ∙ sym (map-append h (tab n (sample_at f s)) ((f n (after f s n)).0 ∷ []))

-- ---- the loop over the modes
pub modes-start : (xs cs : List Float) → so_far xs cs 0 ≡ (items_of xs, cs)
unfolding bank_of
modes-start xs cs = λ i. blk-ret (λ (u : Unit {0}). u) tt (items_of xs) i cs

zero-sums : (xs : List Float) → sums (items_of xs) ≡ map (λ x. single.zero) xs
zero-sums [] = refl
zero-sums (x ∷ xs) = ap (λ (l : List Float). single.zero ∷ l) (zero-sums xs)

pub sums-start : (xs cs : List Float) → sums (so_far xs cs 0).0 ≡ replicate (length xs) single.zero
sums-start xs cs = ap (λ (r : List Item × List Float). sums r.0) (modes-start xs cs) ∙ zero-sums xs ∙ map-const single.zero xs

pub length-sums : (xs cs : List Float) (k : ℕ) → length (sums (so_far xs cs k).0) ≡ length xs
length-sums xs cs k =
    length-map (so_far xs cs k).0 (λ (p : Item). p.1) ∙ sym (length-map (so_far xs cs k).0 (λ (p : Item). p.0)) ∙ ap length (so_far-inputs xs cs k)

module _ (xs cs : List Float) (k : ℕ) {ws ds : List Float} (fits : 5 * k + 4 < length ds)
    (is-ws : ws ≡ sums (so_far xs cs k).0) (is-ds : ds ≡ (so_far xs cs k).1) where
  abbrev ps : List Item
  ps = (so_far xs cs k).0

  abbrev local_step : ℕ → Mode → Item × Mode
  local_step j m = local_act (get_or ps j (nan, nan)) m

  turn-is : (j : ℕ) (m : Mode) → mode_turn xs ws j m ≡ ((local_step j m).0.1, (local_step j m).1)
  unfolding mode_turn
  turn-is j m =
      let x : at xs j ≡ (get_or ps j (nan, nan)).0 = ap (λ (l : List Float). at l j) (sym (so_far-inputs xs cs k)) ∙ get_or-map (λ (p : Item). p.0) ps j (nan, nan) in
      let w : at ws j ≡ (get_or ps j (nan, nan)).1 = ap (λ (l : List Float). at l j) is-ws ∙ get_or-map (λ (p : Item). p.1) ps j (nan, nan) in
      λ i. (w i ⊕ (mode_of m (x i)).0, (mode_of m (x i)).1)

  length-ps : length ps ≡ length ws
  length-ps = sym (ap length is-ws ∙ length-map ps (λ (p : Item). p.1))

  turned : so_far xs cs (k + 1) ≡ ((over local_act ps (mode_at ds k)).0, put_mode ds k (over local_act ps (mode_at ds k)).1)
  turned =
      (λ t. bank-more mode_act k (λ i p q h. mode-comm i k p q h) (items_of xs) t cs)
      ∙ ap (over (mode_act k) ps) (sym is-ds)
      ∙ over-local ds k fits ps

  local-is : (m : Mode) → over local_act ps m ≡ (given local_step m (length ws), after local_step m (length ws))
  local-is m = blk-is (λ (u : Unit {0}). u) (λ u p. local_act p) (nan, nan) tt ps m ∙ ap (λ n. (given local_step m n, after local_step m n)) length-ps

  pub modes-turn : {vs : List Float} {m : Mode} → vs ≡ given (mode_turn xs ws) (mode_at ds k) (length ws) → m ≡ after (mode_turn xs ws) (mode_at ds k) (length ws)
      → (vs ≡ sums (so_far xs cs (k + 1)).0) × (put_mode ds k m ≡ (so_far xs cs (k + 1)).1)
  modes-turn {vs} {m} p q =
      let m0 = mode_at ds k in
      let n = length ws in
      let same = λ (j : ℕ) (h : j < n) (u : Mode). turn-is j u in
      let v : vs ≡ sums (over local_act ps m0).0 =
      p ∙ given-same (mode_turn xs ws) (part (λ (p : Item). p.1) local_step) m0 n same ∙ given-part (λ (p : Item). p.1) local_step m0 n ∙ sym (ap (λ (r : List Item × Mode). sums r.0) (local-is m0)) in
      let w : m ≡ (over local_act ps m0).1 =
      q ∙ after_same (mode_turn xs ws) (part (λ (p : Item). p.1) local_step) m0 n same ∙ after-part (λ (p : Item). p.1) local_step m0 n ∙ sym (ap (λ (r : List Item × Mode). r.1) (local-is m0)) in
      (v ∙ sym (ap (λ (r : List Item × List Float). sums r.0) turned), ap (put_mode ds k) w ∙ sym (ap (λ (r : List Item × List Float). r.1) turned))

-- ---- n modes are n modes for each sample
bank-modes : (n : ℕ) (x w : Float) (cs : List Float) → let r = units (mode_step x) (w, cs) n in bank_of mode_act n (x, w) cs ≡ ((x, r.0), r.1)
unfolding bank_of units mode_act mode_step
bank-modes zero x w cs = refl
bank-modes (suc n) x w cs = ap (λ (s : Item × List Float). mode_act n s.0 s.1) (bank-modes n x w cs)

sums-end : (n : ℕ) (xs cs : List Float) → (sums (so_far xs cs n).0, (so_far xs cs n).1) ≡ over (λ x ds. modes x ds n) xs cs
unfolding blk
sums-end n [] cs = refl
sums-end n (x ∷ xs) cs =
    let r = modes x cs n in
    ap (λ (b : Item × List Float). (b.0.1 ∷ sums (so_far xs b.1 n).0, (so_far xs b.1 n).1)) (bank-modes n x single.zero cs)
    ∙ ap (λ (q : List Float × List Float). (r.0 ∷ q.0, q.1)) (sums-end n xs r.1)

pub modes-end : (n : ℕ) (xs cs : List Float) → (sums (so_far xs cs n).0 ≡ given (modes_step n xs) cs (length xs)) × ((so_far xs cs n).1 ≡ after (modes_step n xs) cs (length xs))
modes-end n xs cs =
    let e = sums-end n xs cs ∙ blk-is (λ (u : Unit {0}). u) (λ u x ds. modes x ds n) nan tt xs cs in
    (ap (λ (r : List Float × List Float). r.0) e, ap (λ (r : List Float × List Float). r.1) e)
