-- Worked values, each the Rust's own answer.
use Rattle.std.specs.Prelude.{◌≡◌, refl}
use Rattle.std.specs.Float.{binary32}
use Rattle.std.specs.Float.Ieee.{of_bits, of_int, add, sub, mul, div}
use Rattle.rng.specs.Random.{mixed, stepped, drawn, unit_of, bi_of, range_of, path_of, seed_of, rand_seed_of}

-- ---- the generator: the finalizer at the first state from the seed 0, and the first outputs of Vigna's splitmix64.c from 1234567
mix-1 : mixed 0x9e37_79b9_7f4a_7c15 ≡ 0xe220_a839_7b1d_cdaf
unfolding mixed
mix-1 = refl

draw-1 : drawn 1234567 ≡ 6457827717110365317
unfolding mixed
draw-1 = refl

draw-2 : drawn (stepped 1234567) ≡ 3203168211198807973
unfolding mixed
draw-2 = refl

-- the state wraps
step-1 : stepped 0xffff_ffff_ffff_ffff ≡ 0x9e37_79b9_7f4a_7c14
step-1 = refl

unit-1 : unit_of 1234567 ≡ of_bits binary32 0x3eb3_3da0
unfolding unit_of mixed of_int of_bits div
unit-1 = refl

bi-1 : bi_of (stepped 1234567) ≡ of_bits binary32 0xbf27_1820
unfolding bi_of unit_of mixed of_int of_bits div mul sub
bi-1 = refl

-- from -2.5 to 7.25
range-1 : range_of (stepped (stepped 1234567)) (of_bits binary32 0xc020_0000) (of_bits binary32 0x40e8_0000) ≡ of_bits binary32 0x402c_18ea
unfolding range_of unit_of mixed of_int of_bits div mul sub add
range-1 = refl

-- ---- seeds
path-1 : path_of 1234567 3 ≡ 0x12d6_8300_2002_8099
unfolding path_of
path-1 = refl

path-2 : path_of 0xffff_ffff_ffff_ffff 0xffff_ffff_ffff_ffff ≡ 0xffff_feff_ffff_fe4d
unfolding path_of
path-2 = refl

seed-1 : seed_of 0x12d6_8300_2002_8099 ≡ 0xe5cd_d65b_caf3_eec4
unfolding seed_of mixed
seed-1 = refl

-- the seed 7, from 200 to 800, 3.5 times a second
rand-1 : rand_seed_of 7 0x4348_0000 0x4448_0000 0x4060_0000 ≡ 0x8e67_4244_d458_bc06
unfolding rand_seed_of
rand-1 = refl
