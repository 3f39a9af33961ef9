-- `fields::unset` meets its contract: the words that it looks at cover the numbers from m on, and no other. Assumes nothing.
use mathlib.Core.Path.{◌≡◌, sym, ap, ap₂, ◌∙◌}
use mathlib.Core.Bool.{Bool, true}
use mathlib.Core.List.{List}
use Prim.Native.Nat.{ℕ, zero, suc, ◌+◌, ◌-◌, ◌*◌, ◌≤◌, ◌<◌, min, ◌^◌}
use native.Mathlib.Omega.{arith}
use native.Mathlib.Nat.{add-zero}
use native.Mathlib.Decide.{dec_lt}
use lib.Bits.{bit_or, or_add_and, and_le_l, and_le_r}
use lib.Dec.{eqb}
use borrow.Author.Tests.{eqb-true, eq-eqb}
use Rattle.sheet.specs.Bytes.{byte_at, u32_at, u64_at}
use Rattle.sheet.specs.Checks.{all}
use Rattle.sheet.specs.Laws.{same, all-at, all_of}
use Rattle.fields.proofs.unset.Goals as goal

or-none : (a b : ℕ) → bit_or a b ≡ 0 → (a ≡ 0) × (b ≡ 0)
or-none a b e = (omega (arith, or_add_and a b, and_le_r a b, e), omega (arith, or_add_and a b, and_le_l a b, e))

-- the bytes from a place to another are zero
abbrev Zero : List ℕ → ℕ → ℕ → Type 0
Zero s a b = (j : ℕ) → a ≤ j → j < b → byte_at s j ≡ 0

word_out : (s : List ℕ) (a : ℕ) → u32_at s a ≡ 0 → Zero s a (a + 4)
word_out s a e j h g = ap (byte_at s) (omega arith) ∙ go (j - a) (omega arith)
  where
    go : (t : ℕ) → t < 4 → byte_at s (a + t) ≡ 0
    go zero l = rw add-zero (omega arith)
    go (suc zero) l = omega arith
    go (suc (suc zero)) l = omega arith
    go (suc (suc (suc zero))) l = ap (byte_at s) (omega arith) ∙ third
      where
        third : byte_at s (a + 2 + 1) ≡ 0
        third = omega arith
    go (suc (suc (suc (suc t)))) l = let x : ⊥ = omega arith in absurd x

word_in : (s : List ℕ) (a : ℕ) → Zero s a (a + 4) → u32_at s a ≡ 0
word_in s a z = omega (arith, z a (omega arith) (omega arith), z (a + 1) (omega arith) (omega arith), z (a + 2) (omega arith) (omega arith), z (a + 2 + 1) (omega arith) (omega arith))

double-out : (s : List ℕ) (a : ℕ) → u64_at s a ≡ 0 → Zero s a (a + 8)
double-out s a e j h g = elim (dec_lt j (a + 4)) [ yes l ↦ word_out s a low j h l | no l ↦ word_out s (a + 4) high j (omega arith) (omega arith) ]
  where
    low : u32_at s a ≡ 0
    low = omega arith

    high : u32_at s (a + 4) ≡ 0
    high = omega arith

double-in : (s : List ℕ) (a : ℕ) → Zero s a (a + 8) → u64_at s a ≡ 0
double-in s a z = ap₂ (λ (x y : ℕ). x + 2 ^ 32 * y) (word_in s a (λ j h g. z j h (omega arith))) (word_in s (a + 4) (λ j h g. z j (omega arith) (omega arith)))

module _ (r : List ℕ) (m : ℕ) where
  clear : (b : Bool) → (b ≡ true → Zero r (8 + 4 * m) 40) → (Zero r (8 + 4 * m) 40 → b ≡ true) → b ≡ all (λ k. eqb (byte_at r (8 + 4 * m + k)) 0) (32 - 4 * m)
  clear b there back = same b _
      (λ e. all_of _ (32 - 4 * m) (λ k h. eq-eqb _ 0 (there e (8 + 4 * m + k) (omega arith) (omega arith))))
      (λ e. back (λ j h g. ap (byte_at r) (omega arith) ∙ eqb-true (byte_at r (8 + 4 * m + (j - (8 + 4 * m)))) 0 (all-at _ _ e (j - (8 + 4 * m)) (omega arith))))

  module _ (p q : ℕ) (few : m ≤ 6) (ep : p ≡ min (m + 2) 6) (eq : q ≡ min (m + 4) 6) where
    cover : u64_at r (8 + 4 * m) ≡ 0 → u64_at r (8 + 4 * p) ≡ 0 → u64_at r (8 + 4 * q) ≡ 0 → u64_at r 32 ≡ 0 → Zero r (8 + 4 * m) 40
    cover a b c d j h g = elim (dec_lt j 32) [
      | no l ↦ double-out r 32 d j (omega arith) g
      | yes l ↦ elim (dec_lt j (8 + 4 * m + 8)) [
        | yes k ↦ double-out r (8 + 4 * m) a j h k
        | no k ↦ elim (dec_lt j (8 + 4 * m + 16)) [
          | yes t ↦ double-out r (8 + 4 * p) b j (omega arith) (omega arith)
          | no t ↦ double-out r (8 + 4 * q) c j (omega arith) (omega arith)
        ]
      ]
    ]

    words : (a b c d : ℕ) → a ≡ u64_at r (8 + 4 * m) → b ≡ u64_at r (8 + 4 * p) → c ≡ u64_at r (8 + 4 * q) → d ≡ u64_at r 32
        → eqb (bit_or (bit_or (bit_or a b) c) d) 0 ≡ all (λ k. eqb (byte_at r (8 + 4 * m + k)) 0) (32 - 4 * m)
    words a b c d ea eb ec ed = clear (eqb (bit_or (bit_or (bit_or a b) c) d) 0) there back
      where
        there : eqb (bit_or (bit_or (bit_or a b) c) d) 0 ≡ true → Zero r (8 + 4 * m) 40
        there e =
            let z = or-none (bit_or (bit_or a b) c) d (eqb-true _ 0 e) in
            let y = or-none (bit_or a b) c z.0 in
            let x = or-none a b y.0 in
            cover (sym ea ∙ x.0) (sym eb ∙ x.1) (sym ec ∙ y.1) (sym ed ∙ z.1)

        none : (t v : ℕ) → v ≡ u64_at r (8 + 4 * t) → m ≤ t → t ≤ 6 → Zero r (8 + 4 * m) 40 → v ≡ 0
        none t v e h g z = e ∙ double-in r (8 + 4 * t) (λ j k l. z j (omega arith) (omega arith))

        back : Zero r (8 + 4 * m) 40 → eqb (bit_or (bit_or (bit_or a b) c) d) 0 ≡ true
        back z = rw (none m a ea (omega arith) few z, none p b eb (omega arith) (omega arith) z, none q c ec (omega arith) (omega arith) z, none 6 d ed few (omega arith) z)

pub returns-then-m-gt6 : goal.returns-then-m-gt6
returns-then-m-gt6 c =
    let r = c.args.r.now in
    clear r c.args.m _
    (λ e j h g. word_out r 36 (sym c.bits.ensures ∙ eqb-true _ 0 e) j (omega arith) g)
    (λ z. eq-eqb _ 0 (c.bits.ensures ∙ word_in r 36 (λ j h g. z j (omega arith) g)))

pub returns : goal.returns
returns c =
    let k = c.from-k.ensures in
    words c.args.r.now c.args.m _ _ c.if-m-gt6.false (rw k at c.min.ensures) (rw k at c.min-2.ensures) _ _ _ _
    (rw k at c.pair.ensures) c.pair-2.ensures c.pair-3.ensures c.pair-4.ensures
