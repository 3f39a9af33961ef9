-- Laws of kinds by their numbers. No function asks for them since a kind is an enum; they stand since the definitions are over numbers.
use Rattle.std.specs.Prelude.{◌≡◌, Bool, true, cond, ◌&&◌, ◌||◌, ◌≢◌, ◌⊎◌, ℕ, ◌≤◌, ◌<◌, eqb}
use Rattle.std.proofs.Common.{refl, subst, arith}
use Rattle.std.proofs.Math.Bool.{false, not}
use Rattle.std.proofs.Math.Logic.{inl, inr}
use Rattle.std.proofs.Math.Decide.{dec_lt, ℕ_discrete}
use Rattle.std.proofs.Math.Dec.{leb}
use Rattle.std.proofs.lemmas.Bool.{or_cases}
use borrow.Author.Tests.{eqb-true, eqb-false, leb-true, lt-leb, ne_eqb, not-true}
use Rattle.sheet.specs.Kinds.{lookup}
use Rattle.sheet.specs.Checks.{all}
use Rattle.sheet.specs.Laws.{both, and-false, all-at}
use Rattle.sheet.specs.Table.{row-past}
use Rattle.unit.specs.Buffers.{values_of}
use Rattle.units.specs.Values.{has_unit}

-- ---- how many values a kind has, from its number
abbrev pub two : ℕ → Bool
two k = eqb k 2 || eqb k 5

abbrev pub one : ℕ → Bool
one k = ((leb 1 k && leb k 6) || (leb 21 k && leb k 28)) || eqb k 32

unfoldable counted : ℕ → ℕ
counted k = cond (two k) 2 (cond (one k) 1 0)

right : ℕ → Bool
right k = eqb (counted k) (values_of k)

all_right : all right 53 ≡ true
unfolding all right lookup counted
all_right = refl

-- past the rows no kind has a chain
pub counted_is : (k : ℕ) → cond (two k) 2 (cond (one k) 1 0) ≡ values_of k
unfolding right counted
counted_is k = elim (dec_lt k 53) [
  | yes h ↦ eqb-true _ _ (all-at right 53 all_right k h)
  | no h ↦ rw (
    row-past k (omega arith),
    ne_eqb k 2 (λ e. omega arith),
    ne_eqb k 5 (λ e. omega arith),
    ne_eqb k 32 (λ e. omega arith),
    lt-leb k 6 (omega arith),
    lt-leb k 28 (omega arith),
    and-false (leb 1 k),
    and-false (leb 21 k),
  )
]

-- ---- which kinds have a unit, and how many values each of them has
pub group : (k : ℕ) → has_unit k ≡ true → ((1 ≤ k) × (k ≤ 10)) ⊎ ((21 ≤ k) × (k ≤ 35))
group k e = elim (or_cases (leb 1 k && leb k 10) (leb 21 k && leb k 35) e) [ inl p ↦ inl (between 1 10 p) | inr p ↦ inr (between 21 35 p) ]
  where
    between : (a b : ℕ) → leb a k && leb k b ≡ true → (a ≤ k) × (k ≤ b)
    between a b q = let r = both (leb a k) (leb k b) q in (leb-true a k r.0, leb-true k b r.1)

-- a test of each kind: m values only where the kind is one of these
unfoldable pub fits : ℕ → Bool
fits k =
    (not (eqb (values_of k) 0) || not (has_unit k) || (leb 7 k && leb k 10) || (leb 29 k && leb k 35 && not (eqb k 32)))
    && (not (eqb (values_of k) 1) || (leb 1 k && leb k 6 && not (eqb k 2) && not (eqb k 5)) || (leb 21 k && leb k 32 && not (eqb k 29) && not (eqb k 30) && not (eqb k 31)))
    && (not (eqb (values_of k) 2) || (leb 2 k && leb k 5 && not (eqb k 3) && not (eqb k 4)))

all-fits : all fits 53 ≡ true
unfolding all fits lookup
all-fits = refl

pub unit-low : (k : ℕ) → has_unit k ≡ true → k < 53
unit-low k e = elim (group k e) [ inl p ↦ omega arith | inr p ↦ omega arith ]

pub not-eq : (a b : ℕ) → not (eqb a b) ≡ true → a ≢ b
not-eq a b e = eqb-false a b (not-true (eqb a b) e)

module _ (k : ℕ) (e : has_unit k ≡ true) where
  pub fit : fits k ≡ true
  fit = all-at fits 53 all-fits k (unit-low k e)

  abbrev firsts : Bool
  firsts = not (eqb (values_of k) 0) || not (has_unit k) || (leb 7 k && leb k 10) || (leb 29 k && leb k 35 && not (eqb k 32))

  abbrev seconds : Bool
  seconds = not (eqb (values_of k) 1) || (leb 1 k && leb k 6 && not (eqb k 2) && not (eqb k 5)) || (leb 21 k && leb k 32 && not (eqb k 29) && not (eqb k 30) && not (eqb k 31))

  abbrev thirds : Bool
  thirds = not (eqb (values_of k) 2) || (leb 2 k && leb k 5 && not (eqb k 3) && not (eqb k 4))

  pub none_is : values_of k ≡ 0 → ((7 ≤ k) × (k ≤ 10)) ⊎ ((29 ≤ k) × (k ≤ 35) × (k ≢ 32))
  unfolding fits
  none_is z =
      let h : firsts ≡ true = (both firsts seconds (both (firsts && seconds) thirds fit).0).0 in
      let g : (leb 7 k && leb k 10) || (leb 29 k && leb k 35 && not (eqb k 32)) ≡ true = rw (z, e) at h in
      elim (or_cases (leb 7 k && leb k 10) (leb 29 k && leb k 35 && not (eqb k 32)) g) [
        | inl p ↦ let a = both (leb 7 k) (leb k 10) p in inl (leb-true 7 k a.0, leb-true k 10 a.1)
        | inr p ↦
            let b = both (leb 29 k && leb k 35) (not (eqb k 32)) p in
            let a = both (leb 29 k) (leb k 35) b.0 in
            inr (leb-true 29 k a.0, leb-true k 35 a.1, not-eq k 32 b.1)
      ]

  pub one-is : values_of k ≡ 1 → ((1 ≤ k) × (k ≤ 6) × (k ≢ 2) × (k ≢ 5)) ⊎ ((21 ≤ k) × (k ≤ 32) × (k ≢ 29) × (k ≢ 30) × (k ≢ 31))
  unfolding fits
  one-is z =
      let h : seconds ≡ true = (both firsts seconds (both (firsts && seconds) thirds fit).0).1 in
      let g : (leb 1 k && leb k 6 && not (eqb k 2) && not (eqb k 5)) || (leb 21 k && leb k 32 && not (eqb k 29) && not (eqb k 30) && not (eqb k 31)) ≡ true = rw z at h in
      elim (or_cases (leb 1 k && leb k 6 && not (eqb k 2) && not (eqb k 5)) (leb 21 k && leb k 32 && not (eqb k 29) && not (eqb k 30) && not (eqb k 31)) g) [
        | inl p ↦
            let d = both (leb 1 k && leb k 6 && not (eqb k 2)) (not (eqb k 5)) p in
            let b = both (leb 1 k && leb k 6) (not (eqb k 2)) d.0 in
            let a = both (leb 1 k) (leb k 6) b.0 in
            inl (leb-true 1 k a.0, leb-true k 6 a.1, not-eq k 2 b.1, not-eq k 5 d.1)
        | inr p ↦
            let f = both (leb 21 k && leb k 32 && not (eqb k 29) && not (eqb k 30)) (not (eqb k 31)) p in
            let d = both (leb 21 k && leb k 32 && not (eqb k 29)) (not (eqb k 30)) f.0 in
            let b = both (leb 21 k && leb k 32) (not (eqb k 29)) d.0 in
            let a = both (leb 21 k) (leb k 32) b.0 in
            inr (leb-true 21 k a.0, leb-true k 32 a.1, not-eq k 29 b.1, not-eq k 30 d.1, not-eq k 31 f.1)
      ]

  pub two_is : values_of k ≡ 2 → (2 ≤ k) × (k ≤ 5) × (k ≢ 3) × (k ≢ 4)
  unfolding fits
  two_is z =
      let h : thirds ≡ true = (both (firsts && seconds) thirds fit).1 in
      let p : leb 2 k && leb k 5 && not (eqb k 3) && not (eqb k 4) ≡ true = rw z at h in
      let d = both (leb 2 k && leb k 5 && not (eqb k 3)) (not (eqb k 4)) p in
      let b = both (leb 2 k && leb k 5) (not (eqb k 3)) d.0 in
      let a = both (leb 2 k) (leb k 5) b.0 in
      (leb-true 2 k a.0, leb-true k 5 a.1, not-eq k 3 b.1, not-eq k 4 d.1)

  -- at most two
  pub few : values_of k ≤ 2
  few = subst (λ n. n ≤ 2) (counted_is k) (most (two k) (one k))
    where
      most : (a b : Bool) → cond a 2 (cond b 1 0) ≤ 2
      most true b = omega arith
      most false true = omega arith
      most false false = omega arith

  -- ---- the same, of the kinds below 21 and of those from 21 on
  pub none-mid : values_of k ≡ 0 → 21 ≤ k → (29 ≤ k) × (k ≤ 35) × (k ≢ 32)
  none-mid z h = elim (none_is z) [ inl p ↦ absurd (omega arith) | inr p ↦ p ]

  pub none-low : values_of k ≡ 0 → k < 21 → (7 ≤ k) × (k ≤ 10)
  none-low z l = elim (none_is z) [ inl p ↦ p | inr p ↦ absurd (omega arith) ]

  pub one-mid : values_of k ≡ 1 → 21 ≤ k → (21 ≤ k) × (k ≤ 32) × (k ≢ 29) × (k ≢ 30) × (k ≢ 31)
  one-mid z h = elim (one-is z) [ inl p ↦ absurd (omega arith) | inr p ↦ p ]

  pub one-low : values_of k ≡ 1 → k < 21 → (1 ≤ k) × (k ≤ 6) × (k ≢ 2) × (k ≢ 5)
  one-low z l = elim (one-is z) [ inl p ↦ p | inr p ↦ absurd (omega arith) ]

  pub two-left : (m : ℕ) → m ≡ values_of k → m ≢ 0 → m ≢ 1 → values_of k ≡ 2
  two-left m q a b = omega (arith, few)

  -- from 21 on there is one at most
  pub some-mid : (m : ℕ) → m ≡ values_of k → m ≢ 0 → 21 ≤ k → values_of k ≡ 1
  some-mid m q a h = elim (ℕ_discrete (values_of k) 2) [
    | yes z ↦ let n = two_is z in absurd (omega arith)
    | no d ↦ omega (arith, few)
  ]
