use Rattle.std.proofs.Common.{◌≡◌, ℕ, ◌-◌, ◌*◌, ◌/◌, ◌%◌, ◌^◌, ◌<◌, false, T, sym, ◌∙◌, mul-pos, pow_pos}
use lib.Ieee.{Float, binary32, fits, to_bits, lt, rem, round}
use Rattle.ieee.proofs.Tests.{null, yes, zero-by-zero-32}
use Rattle.float.specs.Remainder.{digits_of}
use Rattle.float.proofs.Remainder.{view, is-inf, is-value, digits-some, rem-inf, rem-by-inf, rem-values}
use Rattle.float.proofs.rem_above.Goals as goal

-- the parts of a finite float above zero
module _ (x : Float) (F : T (fits binary32 x)) (A : T (lt null x)) (b : ℕ) (e : b ≡ to_bits binary32 x) (n : b / 2 ^ 23 ≡ 255 → ⊥) where
  finite : (b < 2 ^ 31) × (b / 2 ^ 23 ≡ 255 → ⊥)
  finite = (rw e (view x F A).0, n)

  some : 0 < digits_of b
  some = rw e (digits-some x F A (rw e at n))

-- two of them, by their parts
by-parts : (x y : Float) → T (fits binary32 x) → T (lt null x) → T (fits binary32 y) → T (lt null y) → (a b p i q j : ℕ) → a ≡ to_bits binary32 x → b ≡ to_bits binary32 y
    → (a / 2 ^ 23 ≡ 255 → ⊥) → (b / 2 ^ 23 ≡ 255 → ⊥) → (p ≡ digits_of a) × (i ≡ a / 2 ^ 23 - 1) → (q ≡ digits_of b) × (j ≡ b / 2 ^ 23 - 1)
    → round binary32 false (p * 2 ^ i % (q * 2 ^ j)) (2 ^ 149) ≡ rem binary32 x y
by-parts x y F A G B a b p i q j ea eb na nb ep eq =
    rw (ep.0, ep.1, eq.0, eq.1, ea, eb)
    (sym
    (rem-values binary32 x y false false (digits_of (to_bits binary32 x) * 2 ^ (to_bits binary32 x / 2 ^ 23 - 1)) (digits_of (to_bits binary32 y) * 2 ^ (to_bits binary32 y / 2 ^ 23 - 1)) (2 ^ 149) (pow_pos 149)
    (mul-pos (digits-some y G B (rw eb at nb)) (pow_pos (to_bits binary32 y / 2 ^ 23 - 1)))
    (is-value x F A (rw ea at na))
    (is-value y G B (rw eb at nb))))

pub returns-then-a-eq255 : goal.returns-then-a-eq255
returns-then-a-eq255 c =
    zero-by-zero-32 ∙ rem-inf binary32 c.args.x c.args.y (is-inf c.args.x (yes c.well_formed.0.1) (yes c.requires.0) (rw c.from-a.ensures at c.if-a-eq255.true))

pub returns-then-b-eq255 : goal.returns-then-b-eq255
returns-then-b-eq255 c =
    rem-by-inf binary32 c.args.x c.args.y false _ (2 ^ 149)
    (is-value c.args.x (yes c.well_formed.0.1) (yes c.requires.0) (rw c.from-a.ensures at c.if-a-eq255.false))
    (is-inf c.args.y (yes c.well_formed.1.0.1) (yes c.requires.1) (rw c.from-b.ensures at c.if-b-eq255.true))

pub new-requires : goal.new-requires
new-requires c = finite c.args.x (yes c.well_formed.0.1) (yes c.requires.0) _ c.from-a.ensures c.if-a-eq255.false

pub new-requires-else-b-eq255 : goal.new-requires-else-b-eq255
new-requires-else-b-eq255 c = finite c.args.y (yes c.well_formed.1.0.1) (yes c.requires.1) _ c.from-b.ensures c.if-b-eq255.false

pub rem-requires : goal.rem-requires
rem-requires c = rw c.new-else-b-eq255.ensures.0 (some c.args.y (yes c.well_formed.1.0.1) (yes c.requires.1) _ c.from-b.ensures c.if-b-eq255.false)

pub returns-else-b-eq255 : goal.returns-else-b-eq255
returns-else-b-eq255 c =
    c.rem.ensures
    ∙ by-parts c.args.x c.args.y (yes c.well_formed.0.1) (yes c.requires.0) (yes c.well_formed.1.0.1) (yes c.requires.1) _ _ _ _ _ _ c.from-a.ensures c.from-b.ensures c.if-a-eq255.false c.if-b-eq255.false c.new.ensures
    c.new-else-b-eq255.ensures
