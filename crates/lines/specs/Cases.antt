-- Worked cases, each the Rust's own answer.
use Rattle.std.specs.Prelude.{◌≡◌, refl, ℕ, ◌+◌, Float}
use Rattle.std.proofs.Common.{ap}
use Rattle.std.specs.Float.{nan, inf, fin, binary32}
use Rattle.std.specs.Float.Ieee.{of_bits, of_int, add, mul, div, lt, is_nan, to_unsigned}
use Rattle.float.specs.Order.{min_of, clamp_of, negative}
use Rattle.lines.specs.Lines.{delay_line, chorus_base, chorus_swing, chorus_line, tuned_line, comb_line, allpass_line}

-- 0.5, -1 and NaN seconds
pub delay-1 : delay_line (of_bits binary32 0x3f00_0000) 8000 ≡ 4000
unfolding delay_line min_of is_nan lt negative of_bits of_int mul to_unsigned
delay-1 = refl

pub delay-2 : delay_line (of_bits binary32 0xbf80_0000) 8000 ≡ 1
unfolding delay_line min_of is_nan lt negative of_bits of_int mul to_unsigned
delay-2 = refl

pub delay-3 : delay_line nan 8000 ≡ 240000
unfolding delay_line min_of is_nan lt negative of_bits of_int mul to_unsigned
delay-3 = refl

-- a depth of NaN at any rate, then 1 and -0
add-nan : (x : Float) → add binary32 x nan ≡ nan
unfolding add
add-nan nan = refl
add-nan (inf s) = refl
add-nan (fin s m e) = refl

pub chorus-1 : (sr : ℕ) → chorus_line nan sr ≡ 2
unfolding chorus_line chorus_swing clamp_of lt of_bits mul to_unsigned
chorus-1 sr = ap (λ (x : Float). to_unsigned 64 x + 2) (add-nan (chorus_base sr))

chorus-2 : chorus_line (of_bits binary32 0x3f80_0000) 48000 ≡ 1202
unfolding chorus_line chorus_base chorus_swing clamp_of lt of_bits of_int add mul to_unsigned
chorus-2 = refl

chorus-3 : chorus_line (of_bits binary32 0x8000_0000) 44100 ≡ 663
unfolding chorus_line chorus_base chorus_swing clamp_of lt of_bits of_int add mul to_unsigned
chorus-3 = refl

comb-1 : comb_line 0 44100 ≡ 1116
unfolding tuned_line of_bits of_int mul div to_unsigned
comb-1 = refl

comb-2 : comb_line 0 8000 ≡ 202
unfolding tuned_line of_bits of_int mul div to_unsigned
comb-2 = refl

comb-3 : comb_line 0 192000 ≡ 4858
unfolding tuned_line of_bits of_int mul div to_unsigned
comb-3 = refl

allpass-1 : allpass_line 1 192000 ≡ 1920
unfolding tuned_line of_bits of_int mul div to_unsigned
allpass-1 = refl
