-- FNV-1a with 64 bits, by words and not by bytes.
use Rattle.std.specs.Prelude.{◌≡◌, refl, List, [], ◌∷◌, ℕ, zero, suc, ◌+◌, ◌*◌, ◌%◌, ◌^◌, ◌<◌, length, take, get_or, Float}
use Rattle.std.proofs.Common.{add-one, arith}
use Rattle.std.specs.Int.Bits.{bit_xor}
use Rattle.std.specs.Float.{binary32}
use Rattle.std.specs.Float.Ieee.{to_bits}
use Rattle.control.specs.declared.Controls.{Controls}

abbrev pub basis : ℕ
basis = 14695981039346656037

abbrev pub prime : ℕ
prime = 1099511628211

-- the hash with one word more
unfoldable pub mixed : ℕ → ℕ → ℕ
mixed h w = (bit_xor h w * prime) % 2 ^ 64

-- a list's elements after what h has: word says what an element counts as
unfoldable pub hashed : {A : Type 0} → (A → ℕ) → ℕ → List A → ℕ
hashed word h [] = h
hashed word h (x ∷ xs) = hashed word (mixed h (word x)) xs

-- a word is itself
abbrev pub same : ℕ → ℕ
same w = w

-- a float is its bits; every NaN is one
abbrev pub bits_of : Float → ℕ
bits_of x = to_bits binary32 x

-- one element more
pub hashed-more : {A : Type 0} (word : A → ℕ) (h : ℕ) (xs : List A) (k : ℕ) (d : A) → k < length xs → hashed word h (take (k + 1) xs) ≡ mixed (hashed word h (take k xs)) (word (get_or xs k d))
unfolding hashed
hashed-more word h [] k d l = omega arith
hashed-more word h (x ∷ xs) zero d l = refl
hashed-more word h (x ∷ xs) (suc k) d l = rw add-one (rw add-one at (hashed-more word (mixed h (word x)) xs k d (omega arith)))

-- what a voice leaves: its position, pitch, target, glide and bend, and the cells, registers and scratch that it needs
unfoldable pub state_of : Controls → List Float → List ℕ → List Float → ℕ
state_of c cells regs scr =
    let start = mixed basis c.position in
    let moves = c.pitch ∷ c.target ∷ c.glide ∷ c.bend ∷ [] in
    hashed bits_of (hashed same (hashed bits_of (hashed bits_of start moves) cells) regs) scr
