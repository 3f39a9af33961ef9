-- Numbers in bytes, the lowest first. Past the end every byte is 0.
use Rattle.std.specs.Prelude.{ℕ, ◌+◌, ◌*◌, ◌^◌, List, get_or}

abbrev pub byte_at : List ℕ → ℕ → ℕ
byte_at s at = get_or s at 0

abbrev pub u16_at : List ℕ → ℕ → ℕ
u16_at s at = byte_at s at + 256 * byte_at s (at + 1)

abbrev pub u32_at : List ℕ → ℕ → ℕ
u32_at s at = u16_at s at + 65536 * u16_at s (at + 2)

abbrev pub u64_at : List ℕ → ℕ → ℕ
u64_at s at = u32_at s at + 2 ^ 32 * u32_at s (at + 4)
