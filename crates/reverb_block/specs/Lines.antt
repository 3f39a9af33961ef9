-- Reverb's cells in two parts, the lines ls and the combs' stores ss: a comb or an allpass on the parts is one on the cells.
use Rattle.std.specs.Prelude.{◌≡◌, List, [], ◌∷◌, ◌++◌, ℕ, zero, suc, ◌+◌, ◌-◌, ◌≤◌, ◌<◌, length, take, drop, Float}
use Rattle.std.proofs.Math.Path.{sym}
use Rattle.std.proofs.Common.{ap, ◌∙◌, append-nil, le_refl, add-one, arith, length-set, length-drop, length-append, take-append-drop, drop_of_length-le, get_or-set_same, get_or-set_other, get_or-append-add, take_all, take_at, drop_at}
use Rattle.std.proofs.Math.Decide.{ℕ_discrete}
use Rattle.std.proofs.Math.ListN.{set, get_or-append}
use Rattle.std.proofs.lemmas.List.{set-append_left}
use Rattle.std.specs.Float.{nan}
use Rattle.float.specs.Single.{◌⊕◌}
use Rattle.block.specs.Iterate.{at, word}
use Rattle.line_step.specs.Line.{next_place, comb_of, allpass_of}
use Rattle.reverb_block.specs.Reverb.{line_from, store_of, comb_at, allpass_at, Placed}

-- ---- where the lines lie
line-le : (lens : List ℕ) (k m : ℕ) → line_from lens k ≤ line_from lens (k + m)
unfolding line_from
line-le lens k zero = let e : k + 0 ≡ k = omega arith in rw e (le_refl (line_from lens k))
line-le lens k (suc m) =
    let e : k + suc m ≡ suc (k + m) = omega arith in
    rw e (omega (arith, line-le lens k m))

pub line-more : (lens : List ℕ) (k : ℕ) → line_from lens (k + 1) ≡ line_from lens k + word lens k
unfolding line_from
line-more lens k = rw add-one

pub line-end : (lens : List ℕ) (k : ℕ) → k < 10 → line_from lens k + word lens k ≤ line_from lens 10
line-end lens k h =
    let e : k + 1 + (9 - k) ≡ 10 = omega arith in
    let l : line_from lens (k + 1) ≤ line_from lens 10 = rw e at (line-le lens (k + 1) (9 - k)) in
    omega (arith, line-more lens k)

placed-turn : {lens rs : List ℕ} → Placed lens rs → {k w : ℕ} → k < 10 → w < word lens k → Placed lens (set rs k w)
placed-turn {lens} {rs} p {k} {w} h l = record {
  lines = p.lines;
  places = length-set rs k w ∙ p.places;
  inside = λ j b. elim (ℕ_discrete j k) [
    | yes e ↦ rw e (rw (get_or-set_same rs k w 0 (omega (arith, p.places))) l)
    | no e ↦ rw (get_or-set_other rs k j w 0 e) (p.inside j b)
  ];
}

-- line k begins at from in the lines ls
pub record LineAt (lens rs : List ℕ) (ls : List Float) (from k : ℕ) : Type 0 where
  pub placed : Placed lens rs
  pub long : length ls ≡ line_from lens 10
  pub start : from ≡ line_from lens k

pub line-inside : {lens rs : List ℕ} {ls : List Float} {from k : ℕ} → LineAt lens rs ls from k → k < 10
    → (word rs k < word lens k) × (from + word rs k < length ls) × (from + word lens k ≤ length ls)
line-inside {lens} {rs} {ls} {from} {k} a b =
    let i = a.placed.inside k b in
    let e = line-end lens k b in
    (i, omega (arith, a.start, a.long), omega (arith, a.start, a.long))

pub line-next : {lens rs : List ℕ} {ls : List Float} {from k : ℕ} → LineAt lens rs ls from k → k < 10 → {w : ℕ} {ds : List Float} → w < word lens k → length ds ≡ length ls → {j : ℕ} → k + 1 ≡ j → LineAt lens (set rs k w) ds (from + word lens k) j
line-next {lens} {k} a b h same e = record {
  placed = placed-turn a.placed b h;
  long = same ∙ a.long;
  start = ap (λ (n : ℕ). n + word lens k) a.start ∙ sym (line-more lens k) ∙ ap (line_from lens) e;
}

-- the same lines from another place on
pub line-again : {lens rs : List ℕ} {ls : List Float} {from k : ℕ} → LineAt lens rs ls from k → {w j : ℕ} → w ≡ line_from lens j → LineAt lens rs ls w j
line-again a e = record { placed = a.placed; long = a.long; start = e }

pub line-first : {lens rs : List ℕ} {ls : List Float} {from k : ℕ} → LineAt lens rs ls from k → LineAt lens rs ls 0 0
unfolding line_from
line-first a = line-again a (λ i. 0)

-- ---- the two parts
set_append_right : {A : Type 0} (xs ys : List A) (k : ℕ) (a : A) → set (xs ++ ys) (length xs + k) a ≡ xs ++ set ys k a
set_append_right [] ys k a = let e : 0 + k ≡ k = omega arith in rw e
set_append_right {A} (x ∷ xs) ys k a =
    let e : suc (length xs) + k ≡ suc (length xs + k) = omega arith in
    rw e (ap (λ (l : List A). x ∷ l) (set_append_right xs ys k a))

module _ {lens rs : List ℕ} {ls : List Float} {from k : ℕ} (a : LineAt lens rs ls from k) (b : k < 10) where
  read-line : (ss : List Float) → at (ls ++ ss) (line_from lens k + word rs k) ≡ at ls (from + word rs k)
  read-line ss = ap (λ (n : ℕ). at (ls ++ ss) (n + word rs k)) (sym a.start) ∙ get_or-append ls ss nan (from + word rs k) (line-inside a b).1

  write-line : (ss : List Float) (y : Float) → set (ls ++ ss) (line_from lens k + word rs k) y ≡ set ls (from + word rs k) y ++ ss
  write-line ss y = ap (λ (n : ℕ). set (ls ++ ss) (n + word rs k) y) (sym a.start) ∙ set-append_left ls ss (from + word rs k) y (line-inside a b).1

  read-store : (ss : List Float) → at (ls ++ ss) (store_of lens k) ≡ at ss k
  read-store ss = ap (λ (n : ℕ). at (ls ++ ss) (n + k)) (sym a.long) ∙ get_or-append-add ls ss k nan

  write_store : (ss : List Float) (y z : Float) → set (set (ls ++ ss) (line_from lens k + word rs k) y) (store_of lens k) z ≡ set ls (from + word rs k) y ++ set ss k z
  write_store ss y z =
      let ms = set ls (from + word rs k) y in
      ap (λ (cs : List Float). set cs (store_of lens k) z) (write-line ss y)
      ∙ ap (λ (n : ℕ). set (ms ++ ss) (n + k) z) (sym (length-set ls (from + word rs k) y ∙ a.long))
      ∙ set_append_right ms ss k z

  pub comb-turn : (feedback x wet : Float) (ss : List Float) {o : Float × Float × Float} {w : ℕ} → o ≡ comb_of feedback (at ss k) x (at ls (from + word rs k)) → w ≡ next_place (word rs k) (word lens k)
      → (wet ⊕ o.0, (set ls (from + word rs k) o.2 ++ set ss k o.1, set rs k w)) ≡ comb_at feedback lens x (wet, (ls ++ ss, rs)) k
  unfolding comb_at
  comb-turn feedback x wet ss {o} e n =
      let q : o ≡ comb_of feedback (at (ls ++ ss) (store_of lens k)) x (at (ls ++ ss) (line_from lens k + word rs k)) = e ∙ sym (λ i. comb_of feedback (read-store ss i) x (read-line ss i)) in
      λ i. (wet ⊕ (q i).0, (sym (write_store ss (q i).2 (q i).1) i, set rs k (n i)))

  pub allpass-turn : (wet : Float) (ss : List Float) {o : Float × Float} {w : ℕ} → o ≡ allpass_of wet (at ls (from + word rs k)) → w ≡ next_place (word rs k) (word lens k)
      → (o.0, (set ls (from + word rs k) o.1 ++ ss, set rs k w)) ≡ allpass_at lens (wet, (ls ++ ss, rs)) k
  unfolding allpass_at
  allpass-turn wet ss {o} e n =
      let q : o ≡ allpass_of wet (at (ls ++ ss) (line_from lens k + word rs k)) = e ∙ sym (ap (allpass_of wet) (read-line ss)) in
      λ i. ((q i).0, (sym (write-line ss (q i).1) i, set rs k (n i)))

-- ---- the cells taken apart at d, and put together again
pub parts : (d : ℕ) (cs : List Float) → take d cs ++ take (length cs - d) (drop d cs) ≡ cs
parts d cs = ap (λ (l : List Float). take d cs ++ l) (take_all (length cs - d) (drop d cs) (omega (arith, length-drop d cs))) ∙ take-append-drop d cs

pub together : (d : ℕ) (cs ls ss : List Float) → length ls ≡ d
    → let es = ls ++ drop d cs in take d es ++ (ss ++ drop (length es - d) (drop d es)) ≡ ls ++ ss
together d cs ls ss l =
    let es = ls ++ drop d cs in
    let n = length es - d in
    let long : length (drop d cs) ≤ n = omega (arith, length-append ls (drop d cs)) in
    (λ i. take_at ls (drop d cs) d l i ++ (ss ++ drop n (drop_at ls (drop d cs) d l i)))
    ∙ ap (λ (r : List Float). ls ++ (ss ++ r)) (drop_of_length-le (drop d cs) long)
    ∙ ap (λ (r : List Float). ls ++ r) (append-nil ss)
