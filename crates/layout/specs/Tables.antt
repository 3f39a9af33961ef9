-- Tables of what the definitions say of each record, and a turn of each loop that writes one.
use Rattle.std.specs.Prelude.{◌≡◌, refl, Bool, true, false, cond, List, ◌≢◌, ℕ, zero, suc, ◌+◌, ◌-◌, ◌*◌, ◌≤◌, ◌<◌, map, length, get_or, set}
use Rattle.std.proofs.Common.{sym, ap, ◌∙◌, inl, inr, arith, length-set, get_or-set_same, get_or-set_other}
use Rattle.std.proofs.lemmas.List.{get_or-map, length-map}
use Rattle.std.proofs.Math.Decide.{ℕ_discrete}
use Rattle.sheet.specs.Record.{count_of, rate_of, kind, first, next}
use Rattle.sheet.specs.Checks.{check_of}
use Rattle.sheet.specs.Links.{Tables}
use Rattle.layout.specs.Built.{linker, owner}
use Rattle.layout.specs.declared.Role.{Role}
use Rattle.layout.specs.declared.Role.TheVariants.{Out, Silent, Built}
use Rattle.layout.specs.Good.{Good, good}
use Rattle.layout.specs.Owners.{linker-links, linker-below, owner-first, owner-next, owner-root, owner-below}

-- t holds f of every index below n
pub record Table (f : ℕ → ℕ) (n : ℕ) (t : List ℕ) : Type 0 where
  pub long : n ≤ length t
  pub at : (i : ℕ) → i < n → get_or t i 0 ≡ f i

-- a table of what stands for numbers, and its entries
pub long-of : {A : Type 0} (f : A → ℕ) {g : ℕ → ℕ} {n : ℕ} (t : List A) → Table g n (map f t) → n ≤ length t
long-of f t w = omega (arith, w.long, length-map t f)

pub entry-of : {A : Type 0} (f : A → ℕ) {g : ℕ → ℕ} {n : ℕ} (t : List A) → Table g n (map f t) → (i : ℕ) → i < n → (d : A) → f (get_or t i d) ≡ g i
entry-of f t w i h d = sym (get_or-map f t i d 0 (omega (arith, long-of f t w))) ∙ w.at i h

-- a sheet of n records that no check refuses
pub record Passed (s : List ℕ) (n : ℕ) : Type 0 where
  pub passed : check_of s ≡ 0
  pub count : n ≡ count_of s
  pub some : 0 < n
  pub small : n ≤ 256
  pub long : length s ≡ 24 + 40 * n
  pub fast : rate_of s ≤ 192000

pub accept : (s : List ℕ) (n : ℕ) → check_of s ≡ 0 → n ≡ count_of s → Passed s n
accept s n e c = let g = good s e in record {
  passed = e;
  count = c;
  some = omega (arith, g.some);
  small = omega (arith, g.small);
  long = omega (arith, g.long);
  fast = g.fastest;
}

-- the tables that the checks leave of it: the kind of each record, and its links
pub record Listed (s : List ℕ) (n : ℕ) (kinds firsts nexts : List ℕ) : Type 0 where
  pub passed : Passed s n
  pub kind_at : Table (kind s) n kinds
  pub first_at : Table (first s) n firsts
  pub next_at : Table (next s) n nexts

pub listed-by : {s ks fs ns : List ℕ} (n : ℕ) → Passed s n → Tables s ks fs ns → n ≤ length ks → n ≤ length fs → n ≤ length ns → Listed s n ks fs ns
listed-by n a t k f x = record {
  passed = a;
  kind_at = record { long = k; at = λ i h. t.kind_at i (omega (arith, a.count)) };
  first_at = record { long = f; at = λ i h. t.first_at i (omega (arith, a.count)) };
  next_at = record { long = x; at = λ i h. t.next_at i (omega (arith, a.count)) };
}

-- numbers for answers: 1 where it is so; 0 out, 1 silent, 2 built
abbrev pub flag : Bool → ℕ
flag b = cond b 1 0

pub flag-same : (a b : Bool) → flag a ≡ flag b → a ≡ b
flag-same true true e = refl
flag-same true false e = let x : ⊥ = omega (arith, e) in absurd x
flag-same false true e = let x : ⊥ = omega (arith, e) in absurd x
flag-same false false e = refl

-- a table of tests by their flags
abbrev pub flags_of : List Bool → List ℕ
flags_of bs = map flag bs

abbrev pub role_code : Role → ℕ
role_code Out = 0
role_code Silent = 1
role_code Built = 2

abbrev pub code_role : ℕ → Role
code_role zero = Out
code_role (suc zero) = Silent
code_role (suc (suc k)) = Built

-- a table of roles by their codes
abbrev pub roles_of : List Role → List ℕ
roles_of rs = map role_code rs

pub role-code : (r : Role) → code_role (role_code r) ≡ r
role-code Out = refl
role-code Silent = refl
role-code Built = refl

pub role-same : (r q : Role) → role_code r ≡ role_code q → r ≡ q
role-same r q e = sym (role-code r) ∙ ap code_role e ∙ role-code q

-- ---- tables from the front and from the back
abbrev pub Below : (ℕ → ℕ) → ℕ → List ℕ → Type 0
Below f i t = (k : ℕ) → k < i → get_or t k 0 ≡ f k

abbrev pub From : (ℕ → ℕ) → ℕ → ℕ → List ℕ → Type 0
From f j n t = (k : ℕ) → j ≤ k → k < n → get_or t k 0 ≡ f k

pub front-more : (f : ℕ → ℕ) (t : List ℕ) (i v : ℕ) → i < length t → Below f i t → v ≡ f i → Below f (i + 1) (set t i v)
front-more f t i v h w e k l = elim (ℕ_discrete k i) [
  | yes q ↦ rw q (get_or-set_same t i v 0 h ∙ e)
  | no d ↦ get_or-set_other t i k v 0 d ∙ w k (omega arith)
]

pub back_more : (f : ℕ → ℕ) (t : List ℕ) (j n v : ℕ) → 0 < j → j - 1 < length t → From f j n t → v ≡ f (j - 1) → From f (j - 1) n (set t (j - 1) v)
back_more f t j n v z h w e k g l = elim (ℕ_discrete k (j - 1)) [
  | yes q ↦ rw q (get_or-set_same t (j - 1) v 0 h ∙ e)
  | no d ↦ get_or-set_other t (j - 1) k v 0 d ∙ w k (omega arith) l
]

pub back_done : (f : ℕ → ℕ) (t : List ℕ) (n j : ℕ) → n ≤ length t → j ≤ 0 → From f j n t → Table f n t
back_done f t n j l h w = record { long = l; at = λ k g. w k (omega arith) g }

pub front-done : (f : ℕ → ℕ) (t : List ℕ) (n i : ℕ) → n ≤ length t → n ≤ i → Below f i t → Table f n t
front-done f t n i l h w = record { long = l; at = λ k g. w k (omega arith) }

-- owners of the records that the links of those below i lead to
abbrev pub Owned : List ℕ → ℕ → ℕ → List ℕ → Type 0
Owned s n i t = (j : ℕ) → j ≢ 0 → j < n → linker s j < i → get_or t j 0 ≡ owner s j

module _ (s : List ℕ) (n : ℕ) (a : Passed s n) where
  accepted : Good s
  accepted = good s a.passed

  -- ---- owners
  pub owned-entry : (i : ℕ) (t : List ℕ) → i < n → Owned s n i t → i ≢ 0 → get_or t i 0 ≡ owner s i
  owned-entry i t h w d = w i d h (linker-below s accepted i d (omega (arith, a.count)))

  pub owned-turn : (i o f k : ℕ) (t : List ℕ) → i < n → n ≤ length t → (i ≢ 0 → o ≡ owner s i) → f ≡ first s i → k ≡ next s i → Owned s n i t → Owned s n (i + 1) (set (set t f i) k o)
  owned-turn i o f k t h l eo ef ek w j d b c = elim (ℕ_discrete j k) [
    | yes q ↦
        let e : next s i ≡ j = sym ek ∙ sym q in
        let z : i ≢ 0 = λ y. d (sym e ∙ ap (next s) y ∙ accepted.alone) in
        rw q (get_or-set_same (set t f i) k o 0 (rw length-set (omega arith))) ∙ eo z ∙ sym (owner-next s accepted i j e d)
    | no q ↦ get_or-set_other (set t f i) k j o 0 q ∙ elim (ℕ_discrete j f) [
      | yes p ↦ rw p (get_or-set_same t f i 0 (omega arith)) ∙ sym (owner-first s accepted i j (sym ef ∙ sym p) d)
      | no p ↦ get_or-set_other t f j i 0 p ∙ w j d b (below q p)
    ]
  ]
    where
      below : j ≢ k → j ≢ f → linker s j < i
      below q p = elim (ℕ_discrete (linker s j) i) [
        | yes e ↦ absurd (elim (linker-links s accepted j d (omega (arith, a.count))) [
          | inl y ↦ p (sym y ∙ ap (first s) e ∙ sym ef)
          | inr y ↦ q (sym y ∙ ap (next s) e ∙ sym ek)
        ])
        | no e ↦ omega arith
      ]

  pub owned-done : (i : ℕ) (t : List ℕ) → n ≤ i → n ≤ length t → Owned s n i t → Table (owner s) n (set t 0 0)
  owned-done i t h l w = record {
    long = rw length-set l;
    at = λ j b. elim (ℕ_discrete j 0) [
      | yes z ↦ rw z (get_or-set_same t 0 0 0 (omega arith) ∙ sym (owner-root s accepted))
      | no d ↦ get_or-set_other t 0 j 0 0 d ∙ w j d b (omega (arith, linker-below s accepted j d (omega (arith, a.count))))
    ];
  }

  pub owner-in : (j : ℕ) → j ≢ 0 → j < n → owner s j < j
  owner-in j d h = owner-below s accepted j d (omega (arith, a.count))

  pub first-low : (i : ℕ) → i < n → first s i < n
  first-low i h = elim (ℕ_discrete (first s i) 0) [ yes z ↦ omega arith | no d ↦ omega (arith, accepted.first_in i d, a.count) ]

  pub next_low : (i : ℕ) → i < n → next s i < n
  next_low i h = elim (ℕ_discrete (next s i) 0) [ yes z ↦ omega arith | no d ↦ omega (arith, accepted.next_in i d, a.count) ]

  pub first_entry : (t : List ℕ) → Table (first s) n t → (i : ℕ) → i < n → get_or t i 0 < n
  first_entry t w i h = omega (arith, w.at i h, first-low i h)

  pub next-entry : (t : List ℕ) → Table (next s) n t → (i : ℕ) → i < n → get_or t i 0 < n
  next-entry t w i h = omega (arith, w.at i h, next_low i h)

  pub owner-entry : (t : List ℕ) → Table (owner s) n t → (j : ℕ) → j ≢ 0 → j < n → get_or t j 0 < j
  owner-entry t w j d h = omega (arith, w.at j h, owner-in j d h)

  pub next-above : (j : ℕ) → next s j ≢ 0 → j < next s j
  next-above j d = accepted.forest.next_up j d
