-- The arithmetic of f32 in the usual signs for rounded operations, each rounded once, and a few numbers. A literal is its bit pattern.
use Rattle.std.specs.Prelude.{Float}
use Rattle.std.specs.Float.{binary32}
use Rattle.std.specs.Float.Ieee.{add, sub, mul, div, of_bits}

infixl 6 ◌⊕◌
abbrev pub ◌⊕◌ : Float → Float → Float
x ⊕ y = add binary32 x y

infixl 6 ◌⊖◌
abbrev pub ◌⊖◌ : Float → Float → Float
x ⊖ y = sub binary32 x y

infixl 7 ◌⊗◌
abbrev pub ◌⊗◌ : Float → Float → Float
x ⊗ y = mul binary32 x y

infixl 7 ◌⊘◌
abbrev pub ◌⊘◌ : Float → Float → Float
x ⊘ y = div binary32 x y

abbrev pub zero : Float
zero = of_bits binary32 0

abbrev pub half : Float
half = of_bits binary32 0x3f00_0000

abbrev pub one : Float
one = of_bits binary32 0x3f80_0000

abbrev pub two : Float
two = of_bits binary32 0x4000_0000

abbrev pub three : Float
three = of_bits binary32 0x4040_0000

abbrev pub four : Float
four = of_bits binary32 0x4080_0000

-- 2π = 6.2831855
abbrev pub tau : Float
tau = of_bits binary32 0x40c9_0fdb
