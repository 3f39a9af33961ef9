-- Small things that proofs about floats share: tests as facts, the constants of comparisons, and the literals as the checker reads them.
use Rattle.std.proofs.Common.{◌≡◌, ℕ, Bool, true, false, cond, not, T, pos, negsuc, sym, refl, subst}
use lib.Ieee.{Float, nan, fin, binary32, binary64, of_bits, div}

abbrev pub null : Float
null = fin false 0 (pos 0)

-- 2 ^ w
abbrev pub two_to : ℕ → Float
two_to w = fin false 1 (pos w)

abbrev pub minus_one : Float
minus_one = fin true 1 (pos 0)

abbrev pub a_half : Float
a_half = fin false 1 (negsuc 0)

pub yes : {b : Bool} → b ≡ true → T b
yes h = subst T (sym h) tt

pub no : {b : Bool} → b ≡ false → T (not b)
no h = subst (λ (a : Bool). T (not a)) (sym h) tt

pub is_true : (b : Bool) → T b → b ≡ true
is_true true t = refl
is_true false t = absurd t

pub is_false : (b : Bool) → T (not b) → b ≡ false
is_false true t = absurd t
is_false false t = refl

pub cond_yes : {X : Type 0} (b : Bool) (x y : X) → T b → cond b x y ≡ x
cond_yes true x y t = refl
cond_yes false x y t = absurd t

pub cond_no : {X : Type 0} (b : Bool) (x y : X) → T (not b) → cond b x y ≡ y
cond_no true x y t = absurd t
cond_no false x y t = refl

-- ---- the literals
pub zero-32 : of_bits binary32 0 ≡ null
unfolding of_bits
zero-32 = refl

pub zero-64 : of_bits binary64 0 ≡ null
unfolding of_bits
zero-64 = refl

pub one-32 : of_bits binary32 0x3f80_0000 ≡ two_to 0
unfolding of_bits
one-32 = refl

pub one-64 : of_bits binary64 0x3ff0_0000_0000_0000 ≡ two_to 0
unfolding of_bits
one-64 = refl

pub half-32 : of_bits binary32 0x3f00_0000 ≡ a_half
unfolding of_bits
half-32 = refl

pub half-64 : of_bits binary64 0x3fe0_0000_0000_0000 ≡ a_half
unfolding of_bits
half-64 = refl

pub two-23 : of_bits binary32 0x4b00_0000 ≡ two_to 23
unfolding of_bits
two-23 = refl

pub two-52 : of_bits binary64 0x4330_0000_0000_0000 ≡ two_to 52
unfolding of_bits
two-52 = refl

pub zero-by-zero-32 : div binary32 (of_bits binary32 0) (of_bits binary32 0) ≡ nan
unfolding div of_bits
zero-by-zero-32 = refl

pub zero-by-zero-64 : div binary64 (of_bits binary64 0) (of_bits binary64 0) ≡ nan
unfolding div of_bits
zero-by-zero-64 = refl
