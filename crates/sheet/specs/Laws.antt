-- Laws of tests, of `all`, `every` and `sum`, of the part of a slice from a place on, and of a table of kinds
use Rattle.std.specs.Prelude.{◌≡◌, refl, Bool, true, false, ◌&&◌, List, [], ◌∷◌, ℕ, zero, suc, ◌+◌, ◌-◌, ◌≤◌, ◌<◌, length, take, drop, get_or}
use Rattle.std.proofs.Common.{sym, ap₂, ◌∙◌, arith, add-one, length-drop, take_all}
use Rattle.std.proofs.Math.Decide.{ℕ_discrete, dec_lt}
use Rattle.std.proofs.lemmas.List.{get_or-map}
use Rattle.sheet.specs.Checks.{all, every, sum}
use Rattle.sheet.specs.Numbers.{kind_number, numbers_of}
use Rattle.sheet.specs.declared.kinds.Kind.{Kind}

-- `&s[a..]` is what is left of s from a on
pub rest : {A : Type 0} (s : List A) (a : ℕ) → take (length s - a) (drop a s) ≡ drop a s
rest s a = take_all (length s - a) (drop a s) (omega (arith, length-drop a s))

-- the number at a place of a table of kinds is that kind's
pub number-at : (ks : List Kind) (i : ℕ) (d : Kind) → i < length ks → get_or (numbers_of ks) i 0 ≡ kind_number (get_or ks i d)
number-at ks i d h = get_or-map kind_number ks i d 0 h

-- ---- tests
pub never : {A : Type 0} → true ≡ false → A
never e = let z : ◌≡◌ {A = ℕ} 0 1 = cc in let x : ⊥ = omega arith in absurd x

pub both : (a b : Bool) → (a && b) ≡ true → (a ≡ true) × (b ≡ true)
both true b e = (refl, e)
both false b e = never (sym e)

pub and_assoc : (a b c : Bool) → (a && (b && c)) ≡ (a && b && c)
and_assoc true b c = refl
and_assoc false b c = refl

pub and-false : (a : Bool) → (a && false) ≡ false
and-false true = refl
and-false false = refl

pub and-true : (a : Bool) → (a && true) ≡ a
and-true true = refl
and-true false = refl

pub and_comm : (a b : Bool) → (a && b) ≡ (b && a)
and_comm true b = sym (and-true b)
and_comm false b = sym (and-false b)

-- two tests that pass together are one
pub same : (a b : Bool) → (a ≡ true → b ≡ true) → (b ≡ true → a ≡ true) → a ≡ b
same true b f g = sym (f refl)
same false true f g = g refl
same false false f g = refl

-- ---- all
pub all-suc : (p : ℕ → Bool) (n : ℕ) → all p (n + 1) ≡ (all p n && p n)
unfolding all
all-suc p n = rw add-one

pub all-at : (p : ℕ → Bool) (n : ℕ) → all p n ≡ true → (i : ℕ) → i < n → p i ≡ true
unfolding all
all-at p zero e i h = let x : ⊥ = omega arith in absurd x
all-at p (suc n) e i h = let b = both (all p n) (p n) e in elim (ℕ_discrete i n) [ yes q ↦ rw q b.1 | no d ↦ all-at p n b.0 i (omega arith) ]

pub all_of : (p : ℕ → Bool) (n : ℕ) → ((i : ℕ) → i < n → p i ≡ true) → all p n ≡ true
unfolding all
all_of p zero h = refl
all_of p (suc n) h = rw (all_of p n (λ i l. h i (omega arith)), h n (omega arith))

-- one that fails is enough
pub all-fails : (p : ℕ → Bool) (n i : ℕ) → i < n → p i ≡ false → all p n ≡ false
all-fails p n i h e = same (all p n) false (λ a. sym e ∙ all-at p n a i h) (λ q. never (sym q))

-- ---- every
pub every-same : (p q : ℕ → Bool) → ((k : ℕ) → p k ≡ q k) → (xs : List ℕ) → every p xs ≡ every q xs
unfolding every
every-same p q h [] = refl
every-same p q h (x ∷ xs) = ap₂ ◌&&◌ (h x) (every-same p q h xs)

-- ---- sum
pub sum-suc : (f : ℕ → ℕ) (n : ℕ) → sum f (n + 1) ≡ sum f n + f n
unfolding sum
sum-suc f n = rw add-one

pub sum_one : (f : ℕ → ℕ) (n i : ℕ) → i < n → f i ≤ sum f n
unfolding sum
sum_one f zero i h = let x : ⊥ = omega arith in absurd x
sum_one f (suc n) i h = elim (ℕ_discrete i n) [ yes q ↦ rw q (omega arith) | no d ↦ omega (arith, sum_one f n i (omega arith)) ]

pub sum-two : (f : ℕ → ℕ) (n i k : ℕ) → i < k → k < n → f i + f k ≤ sum f n
unfolding sum
sum-two f zero i k h g = let x : ⊥ = omega arith in absurd x
sum-two f (suc n) i k h g =
    elim (ℕ_discrete k n) [ yes q ↦ rw q (omega (arith, sum_one f n i (omega arith))) | no d ↦ omega (arith, sum-two f n i k h (omega arith)) ]

-- a sum above 0 has a part above 0
pub sum-some : (f : ℕ → ℕ) (n : ℕ) → 0 < sum f n → (i : ℕ) × (i < n) × (0 < f i)
unfolding sum
sum-some f zero h = let x : ⊥ = omega arith in absurd x
sum-some f (suc n) h = elim (dec_lt 0 (f n)) [
  | yes p ↦ (n, omega arith, p)
  | no p ↦ let r = sum-some f n (omega arith) in (r.0, omega arith, r.2)
]

pub sum-none : (f : ℕ → ℕ) (n : ℕ) → ((i : ℕ) → i < n → f i ≡ 0) → sum f n ≡ 0
unfolding sum
sum-none f zero h = refl
sum-none f (suc n) h = omega (arith, sum-none f n (λ i l. h i (omega arith)), h n (omega arith))
