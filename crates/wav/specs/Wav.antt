-- The WAVE file, by "Multimedia Programming Interface and Data Specifications 1.0" (IBM and Microsoft, 1991): a RIFF chunk of the form WAVE with
-- a "fmt " chunk and a "data" chunk, here PCM, one channel, 16 bits a sample. A chunk is its ID, its size in bytes, and so many bytes.
use Rattle.std.specs.Prelude.{ℕ, zero, suc, ◌+◌, ◌-◌, ◌*◌, ◌/◌, ◌%◌, List, [], ◌∷◌, ◌++◌, ℤ, pos, negsuc, Float}
use Rattle.std.specs.Float.{binary32}
use Rattle.std.specs.Float.Ieee.{of_bits, neg, to_signed}
use Rattle.rounding.specs.Whole.{round_of}
use Rattle.float.specs.Order.{clamp_of}
use Rattle.float.specs.Single.{◌⊗◌, one}

-- the n lowest bytes of x, the lowest first
unfoldable pub little_endian : ℕ → ℕ → List ℕ
little_endian zero x = []
little_endian (suc n) x = x % 256 ∷ little_endian n (x / 256)

-- "RIFF", "WAVE", "fmt " and "data" in ASCII
abbrev riff_id : List ℕ
riff_id = 82 ∷ 73 ∷ 70 ∷ 70 ∷ []

abbrev wave_id : List ℕ
wave_id = 87 ∷ 65 ∷ 86 ∷ 69 ∷ []

abbrev fmt_id : List ℕ
fmt_id = 102 ∷ 109 ∷ 116 ∷ 32 ∷ []

abbrev data_id : List ℕ
data_id = 100 ∷ 97 ∷ 116 ∷ 97 ∷ []

-- PCM's format tag, one channel, the rate, bytes a second, bytes and bits a sample
abbrev pub format_of : ℕ → List ℕ
format_of rate = little_endian 2 1 ++ little_endian 2 1 ++ little_endian 4 rate ++ little_endian 4 (2 * rate) ++ little_endian 2 2 ++ little_endian 2 16

abbrev pub header_of : ℕ → ℕ → List ℕ
header_of rate samples =
    riff_id ++ little_endian 4 (36 + 2 * samples) ++ wave_id ++ fmt_id ++ little_endian 4 16 ++ format_of rate ++ data_id ++ little_endian 4 (2 * samples)

-- the 16 bits of an integer from -2^15 to 2^15 - 1
abbrev pub twos_complement : ℤ → ℕ
twos_complement (pos n) = n
twos_complement (negsuc n) = 65535 - n

-- 32767
abbrev pub full_scale : Float
full_scale = of_bits binary32 0x46ff_fe00

-- a sample's 16 bits: from -1 to 1, a half away from zero, and 0 for a NaN
unfoldable pub pcm16_of : Float → ℕ
pcm16_of x = twos_complement (to_signed 15 (round_of binary32 (clamp_of x (neg one) one ⊗ full_scale)))

unfoldable pub bytes_of : List Float → List ℕ
bytes_of [] = []
bytes_of (x ∷ xs) = little_endian 2 (pcm16_of x) ++ bytes_of xs
