-- The sheet: a header of 24 bytes, then records of 40.
use Rattle.std.specs.Prelude.{ℕ, ◌+◌, ◌*◌, List, drop, Float}
use Rattle.std.specs.Float.{binary32}
use Rattle.std.specs.Float.Ieee.{of_bits}
use Rattle.sheet.specs.Bytes.{byte_at, u16_at, u32_at, u64_at}

-- ---- the header: N, two zero bytes, the rate, the length n, the root path
abbrev pub count_of : List ℕ → ℕ
count_of s = u16_at s 0

abbrev pub rate_of : List ℕ → ℕ
rate_of s = u32_at s 4

abbrev pub length_of : List ℕ → ℕ
length_of s = u64_at s 8

abbrev pub path_of : List ℕ → ℕ
path_of s = u64_at s 16

-- ---- a record r, by the bytes from its first on: kind, option, first, next, two zero bytes, eight numbers of four bytes
abbrev pub kind_of : List ℕ → ℕ
kind_of r = byte_at r 0

abbrev pub option_of : List ℕ → ℕ
option_of r = byte_at r 1

abbrev pub first_of : List ℕ → ℕ
first_of r = u16_at r 2

abbrev pub next_of : List ℕ → ℕ
next_of r = u16_at r 4

-- number k by its bits, and as a float
abbrev pub bits_of : List ℕ → ℕ → ℕ
bits_of r k = u32_at r (8 + 4 * k)

abbrev pub number_of : List ℕ → ℕ → Float
number_of r k = of_bits binary32 (bits_of r k)

-- Rand's seed: the 8 bytes after its rate
abbrev pub seed_of : List ℕ → ℕ
seed_of r = u64_at r 20

-- ---- record i of a sheet
abbrev pub record_at : List ℕ → ℕ → List ℕ
record_at s i = drop (24 + 40 * i) s

abbrev pub kind : List ℕ → ℕ → ℕ
kind s i = kind_of (record_at s i)

abbrev pub first : List ℕ → ℕ → ℕ
first s i = first_of (record_at s i)

abbrev pub next : List ℕ → ℕ → ℕ
next s i = next_of (record_at s i)
