-- The arithmetic of f64 in the usual signs for rounded operations, a few numbers, and Horner's rule.
use Rattle.std.specs.Prelude.{ℕ, List, [], ◌∷◌, Float}
use Rattle.std.specs.Float.{binary64}
use Rattle.std.specs.Float.Ieee.{add, sub, mul, div, of_bits}

infixl 6 ◌⊕◌
abbrev pub ◌⊕◌ : Float → Float → Float
x ⊕ y = add binary64 x y

infixl 6 ◌⊖◌
abbrev pub ◌⊖◌ : Float → Float → Float
x ⊖ y = sub binary64 x y

infixl 7 ◌⊗◌
abbrev pub ◌⊗◌ : Float → Float → Float
x ⊗ y = mul binary64 x y

infixl 7 ◌⊘◌
abbrev pub ◌⊘◌ : Float → Float → Float
x ⊘ y = div binary64 x y

-- a literal, by its bit pattern
abbrev pub bits : ℕ → Float
bits b = of_bits binary64 b

abbrev pub zero : Float
zero = bits 0

abbrev pub half : Float
half = bits 0x3fe0_0000_0000_0000

abbrev pub one : Float
one = bits 0x3ff0_0000_0000_0000

abbrev pub two : Float
two = bits 0x4000_0000_0000_0000

-- c + z (d + z (..)): the polynomial with the coefficients c, d, .. at z, worked out from the last one
unfoldable pub horner : Float → List Float → Float
horner z [] = zero
horner z (c ∷ []) = c
horner z (c ∷ d ∷ ds) = c ⊕ z ⊗ horner z (d ∷ ds)
