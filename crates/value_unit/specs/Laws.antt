-- The values over a block: an Arp's steps along its chain, and the case that a record's kind gives.
use Rattle.std.specs.Prelude.{◌≡◌, refl, ◌≢◌, Bool, true, false, cond, eqb, ltb, ℕ, zero, suc, ◌+◌, ◌-◌, ◌<◌, length, get_or, Float}
use Rattle.std.proofs.Common.{sym, ◌∙◌, mod-lt, arith}
use Rattle.std.proofs.Math.Path.{ap}
use mathlib.Core.List.{List, [], ◌∷◌, map}
use borrow.Author.Tests.{eq-eqb, eqb-true, ne_eqb}
use Rattle.std.proofs.lemmas.List.{length-map}
use Rattle.std.specs.Float.{nan}
use Rattle.block.specs.Iterate.{at, given, given-still, part-while}
use Rattle.control.specs.declared.Controls.{Controls}
use Rattle.float.specs.Single.{zero as zero_f}
use Rattle.value.specs.Modulators.{arp_index, arp_of}
use Rattle.sheet.specs.Record.{length_of, first_of, number_of, record_at, next}
use Rattle.sheet.specs.Tree.{records, spine}
use Rattle.sheet.specs.Value.{value_as}
use Rattle.sheet.specs.Numbers.{val_number}
use Rattle.sheet.specs.declared.kinds.Val.{Val}
use Rattle.sheet.specs.declared.kinds.Val.TheVariants as V
use Rattle.dsl.specs.declared.Rand.{Rand as Walk}
use Rattle.sheet.specs.declared.Value.{Value}
use Rattle.sheet.specs.declared.Value.TheVariants.{Arp, Rand}
use Rattle.layout.specs.Good.{good}
use Rattle.layout.specs.Owners.{records-none, records-some}
use Rattle.layout.specs.Tables.{Table, Passed, next-entry}
use Rattle.unit.specs.Own.{stateless}
use Rattle.value_unit.specs.declared.Step.{Step}
use Rattle.unit.specs.Values.{value_unit}
use Rattle.unit.specs.Unit.{steps_of, srf, kind_unit}
use Rattle.unit.specs.Block.{moment, Ran, Lent, ran-stateless}

-- ---- an Arp's steps, from the record j of the chain on; the k-th of them, past the end nan
abbrev pub steps_from : List ℕ → ℕ → List Float
steps_from s j = map (λ j. number_of (record_at s j) 0) (spine (records s j))

abbrev pub step_at : List ℕ → ℕ → ℕ → Float
step_at s j k = get_or (steps_from s j) k nan

unfoldable pub arp_step : List Float → Float → Float → ℕ → ℕ → Unit {0} → Float × Unit {0}
arp_step steps rate srf t k u = (arp_of steps rate srf (t + k), u)

pub steps-length : (s : List ℕ) (j : ℕ) → length (steps_from s j) ≡ length (spine (records s j))
steps-length s j = length-map (spine (records s j)) (λ j. number_of (record_at s j) 0)

pub index_in : (rate srf : Float) (t n : ℕ) → 0 < n → arp_index rate srf t n < n
unfolding arp_index
index_in rate srf t n h = mod-lt _ h

pub arp-none : (steps : List Float) (rate srf : Float) (t : ℕ) → length steps ≡ 0 → zero_f ≡ arp_of steps rate srf t
unfolding arp_of
arp-none steps rate srf t e = rw (eq-eqb (length steps) 0 e)

pub arp-some : (steps : List Float) (rate srf : Float) (t n : ℕ) → n ≡ length steps → 0 < n → get_or steps (arp_index rate srf t n) nan ≡ arp_of steps rate srf t
unfolding arp_of
arp-some steps rate srf t n e h = let d : length steps ≢ 0 = omega arith in rw (e, ne_eqb (length steps) 0 d)

-- step i of the chain from j on, by the last one found where that is it
unfoldable pub step_from : List ℕ → ℕ → ℕ → Step → Step
step_from s j i last = cond (eqb i last.index) last (record { index = i; number = step_at s j i })

-- a sample of an Arp of n steps, by the last step found
unfoldable pub found_step : List ℕ → ℕ → ℕ → Float → Float → ℕ → ℕ → Step → Float × Step
found_step s j n rate srf t k last = let u = step_from s j (arp_index rate srf (t + k) n) last in (u.number, u)

-- with the last step's own number, the next has its own
pub step-found : (s : List ℕ) (j i : ℕ) (last : Step) → last.number ≡ step_at s j last.index → (step_from s j i last).number ≡ step_at s j i
unfolding step_from
step-found s j i last e = on_test (eqb i last.index) refl
  where
    on_test : (b : Bool) → eqb i last.index ≡ b → (cond b last (record { index = i; number = step_at s j i })).number ≡ step_at s j i
    on_test true q = e ∙ ap (step_at s j) (sym (eqb-true i last.index q))
    on_test false q = refl

step-index : (s : List ℕ) (j i : ℕ) (last : Step) → (step_from s j i last).index ≡ i
unfolding step_from
step-index s j i last = on_test (eqb i last.index) refl
  where
    on_test : (b : Bool) → eqb i last.index ≡ b → (cond b last (record { index = i; number = step_at s j i })).index ≡ i
    on_test true q = sym (eqb-true i last.index q)
    on_test false q = refl

pub found-is-arp : (s : List ℕ) (j n : ℕ) (rate srf : Float) (t : ℕ) (first : Step) → n ≡ length (steps_from s j) → 0 < n → first.number ≡ step_at s j first.index → (m : ℕ)
    → given (found_step s j n rate srf t) first m ≡ given (arp_step (steps_from s j) rate srf t) tt m
unfolding found_step arp_step
found-is-arp s j n rate srf t first q h e m =
    sym (part-while (λ u. tt) (found_step s j n rate srf t) (arp_step (steps_from s j) rate srf t) (λ u. u.number ≡ step_at s j u.index) m
    (λ k l u f.
    let i = arp_index rate srf (t + k) n in
    let g = step-found s j i u f in
    (g ∙ ap (step_at s j) (sym (step-index s j i u)), λ x. (sym (g ∙ arp-some (steps_from s j) rate srf (t + k) n q h) x, tt))) first e).0

module _ (s : List ℕ) (n : ℕ) (a : Passed s n) where
  steps-none : steps_from s 0 ≡ []
  unfolding spine
  steps-none = ap (λ t. map (λ j. number_of (record_at s j) 0) (spine t)) (records-none s (good s a.passed))

  -- a chain with a step left is not at its end
  not_end : (j k : ℕ) → k < length (steps_from s j) → j ≢ 0
  not_end j k h e = omega (arith, ap (λ j. length (steps_from s j)) e, ap length steps-none)

  steps-some : (j k : ℕ) → j < n → k < length (steps_from s j) → steps_from s j ≡ number_of (record_at s j) 0 ∷ steps_from s (next s j)
  unfolding spine
  steps-some j k l h = ap (λ t. map (λ j. number_of (record_at s j) 0) (spine t)) (records-some s (good s a.passed) j (not_end j k h) (omega (arith, a.count)))

  pub step-here : (j : ℕ) → j < n → 0 < length (steps_from s j) → number_of (record_at s j) 0 ≡ step_at s j 0
  step-here j l h = sym (ap (λ xs. get_or xs 0 nan) (steps-some j 0 l h))

  -- step k from j on is step k - 1 from the next on
  pub step-turn : (nexts : List ℕ) → Table (next s) n nexts → (j k : ℕ) → j < n → k ≢ 0 → k < length (steps_from s j)
      → (get_or nexts j 0 < n) × (step_at s j k ≡ step_at s (get_or nexts j 0) (k - 1)) × (k - 1 < length (steps_from s (get_or nexts j 0)))
  step-turn nexts w j zero l d h = absurd (d refl)
  step-turn nexts w j (suc k) l d h =
      let e = steps-some j (suc k) l h ∙ ap (λ m. number_of (record_at s j) 0 ∷ steps_from s m) (sym (w.at j l)) in
      let m : suc k - 1 ≡ k = omega arith in
      (next-entry s n a nexts w j l, ap (λ xs. get_or xs (suc k) nan) e ∙ ap (step_at s (get_or nexts j 0)) (sym m), rw m (omega (arith, ap length e)))

-- ---- cases: what an Arp's chain and a Rand's kind are, by what the record is read as
pub arp-case : (val : Val) (r : List ℕ) {rate : Float} {f : ℕ} → value_as (val_number val) r ≡ Arp rate f → f ≡ first_of r
unfolding value_as val_number
arp-case V.Const r e = absurd cc
arp-case V.Slide r e = absurd cc
arp-case V.Lfo r e = absurd cc
arp-case V.Arp r e = cc
arp-case V.EnvMod r e = absurd cc
arp-case V.Rand r e = absurd cc

pub rand-case : (val : Val) (r : List ℕ) {v : Walk} → value_as (val_number val) r ≡ Rand v → val_number val ≡ 46
unfolding value_as val_number
rand-case V.Const r e = absurd cc
rand-case V.Slide r e = absurd cc
rand-case V.Lfo r e = absurd cc
rand-case V.Arp r e = absurd cc
rand-case V.EnvMod r e = absurd cc
rand-case V.Rand r e = refl

value-past : (val : Val) → (ltb (val_number val) 21 ≡ false) × (ltb (val_number val) 41 ≡ false)
unfolding val_number
value-past V.Const = (refl, refl)
value-past V.Slide = (refl, refl)
value-past V.Lfo = (refl, refl)
value-past V.Arp = (refl, refl)
value-past V.EnvMod = (refl, refl)
value-past V.Rand = (refl, refl)

-- the case x that was read from the part of the sheet at a record
module _ {s : List ℕ} {i nc nr : ℕ} (val : Val) (l : Lent s i (val_number val) nc nr) {x v : Value} (e : x ≡ value_as (val_number val) (record_at s i)) (f : x ≡ v) where
  pub told : value_as (val_number val) (record_at s i) ≡ v
  told = sym e ∙ f

  pub value_is : kind_unit s i ≡ value_unit v (steps_of s i) (srf s) (length_of s)
  unfolding kind_unit
  value_is = rw (← l.kind_is, (value-past val).0, (value-past val).1, told)

-- a block of a unit without a state and values, by the kernel's steps
pub stateless-ran : (f : Controls → List Float → Float → Float) (g : ℕ → Unit {0} → Float × Unit {0}) (c : Controls) {xs cs ys : List Float} {rs : List ℕ}
    → ys ≡ given g tt (length xs) → ((k : ℕ) → f (moment c k) [] (at xs k) ≡ (g k tt).0) → Ran (stateless f) c [] xs cs rs ys cs rs
stateless-ran f g c y e = ran-stateless f g c [] (λ k l. e k) y

pub constant-ran : (y : Float) (c : Controls) {xs cs ys : List Float} {rs : List ℕ} → ys ≡ map (λ x. y) xs → Ran (stateless (λ t vs x. y)) c [] xs cs rs ys cs rs
constant-ran y c {xs} e = stateless-ran (λ t vs x. y) (λ k u. (y, u)) c (e ∙ sym (given-still (λ k u. (y, u)) y (λ k u. refl) tt xs)) (λ k. refl)
