-- Noise and Dust for one sample as steps of a block: the state is what the kernel leaves.
use Rattle.std.specs.Prelude.{ℕ, Float}
use Rattle.unpitched.specs.Others.{white_of, pink_of, brown_of, dust_of}
use Rattle.unpitched.specs.declared.Pink.{Pink}
use Rattle.unpitched.specs.declared.Brown.{Brown}
use Rattle.unpitched.specs.declared.Dust.{Dust}

unfoldable pub white_step : ℕ → ℕ → Float × ℕ
white_step k word = white_of word

unfoldable pub pink_step : ℕ → Pink → Float × Pink
pink_step k s = pink_of s

unfoldable pub brown_step : ℕ → Brown → Float × Brown
brown_step k s = brown_of s

unfoldable pub dust_step : Float → Float → ℕ → Dust → Float × Dust
dust_step chance decay k s = dust_of chance decay s
