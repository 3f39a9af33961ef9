-- SplitMix64 (Steele, Lea and Flood; Vigna's splitmix64.c), on 64-bit words, and what the port draws from it. A generator is its state word.
use Rattle.std.specs.Prelude.{ℕ, ◌+◌, ◌*◌, ◌/◌, ◌%◌, ◌^◌, pos, bit_xor, from_bits, Float}
use Rattle.std.specs.Float.{binary32}
use Rattle.std.specs.Float.Ieee.{of_int}
use Rattle.float.specs.Single.{◌⊕◌, ◌⊖◌, ◌⊗◌, ◌⊘◌, one, two}

abbrev pub golden_gamma : ℕ
golden_gamma = 0x9e37_79b9_7f4a_7c15

-- the finalizer
unfoldable pub mixed : ℕ → ℕ
mixed z =
    let a = bit_xor z (z / 2 ^ 30) * 0xbf58_476d_1ce4_e5b9 % 2 ^ 64 in
    let b = bit_xor a (a / 2 ^ 27) * 0x94d0_49bb_1331_11eb % 2 ^ 64 in
    bit_xor b (b / 2 ^ 31)

-- the state after a draw, and the word drawn
abbrev pub stepped : ℕ → ℕ
stepped state = (state + golden_gamma) % 2 ^ 64

abbrev pub drawn : ℕ → ℕ
drawn state = mixed (stepped state)

-- the draw as a number in [0, 1) of 24 digits, in [-1, 1), and in [lo, hi)
unfoldable pub unit_of : ℕ → Float
unit_of state = of_int binary32 (pos (drawn state / 2 ^ 40)) ⊘ from_bits binary32 0x4b80_0000

unfoldable pub bi_of : ℕ → Float
bi_of state = unit_of state ⊗ two ⊖ one

unfoldable pub range_of : ℕ → Float → Float → Float
range_of state lo hi = lo ⊕ (hi ⊖ lo) ⊗ unit_of state

-- ---- where a node stands in the tree, as a word: a step of FNV-1a for each child index on the way
abbrev pub fnv_prime : ℕ
fnv_prime = 0x0000_0100_0000_01b3

unfoldable pub path_of : ℕ → ℕ → ℕ
path_of parent child = bit_xor parent ((child + 1) % 2 ^ 64) * fnv_prime % 2 ^ 64

unfoldable pub seed_of : ℕ → ℕ
unfolding mixed
seed_of path = mixed ((path + golden_gamma) % 2 ^ 64)

-- Rand's own seed: its seed and the bits of its three numbers, as the sheet has them, so that the payload of a NaN counts
unfoldable pub rand_seed_of : ℕ → ℕ → ℕ → ℕ → ℕ
rand_seed_of seed from to rate =
    let h = bit_xor seed golden_gamma in
    let a = bit_xor h from * fnv_prime % 2 ^ 64 in
    let b = bit_xor a to * fnv_prime % 2 ^ 64 in
    bit_xor b rate * fnv_prime % 2 ^ 64
