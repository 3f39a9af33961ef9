-- The starred cases of document 01, row by row in its order, each by computation from the definition that the contract cites.
-- `fin s m e` is m * 2 ^ e, negative where s is true: -0.5 is `fin true 1 (negsuc 0)`.
use Rattle.std.specs.Prelude.{◌≡◌, refl, true, false, ℕ, pos, negsuc, Float}
use Rattle.std.specs.Float.{nan, inf, fin, binary32}
use Rattle.std.specs.Float.Ieee.{neg, add, sub, mul, div, lt, of_bits, of_int}
use Rattle.rounding.specs.Whole.{whole_of}
use Rattle.float.specs.Single.{zero, half, one, two}
use Rattle.dsl.specs.declared.Shape.TheVariants.{Triangle}
use Rattle.dsl.specs.declared.DriveShape.TheVariants.{Hard, Fold}
use Rattle.osc.specs.Osc.{poly_blep, osc_of}
use Rattle.drive.specs.Drive.{drive_of, antiderivative_of}
use Rattle.osc.specs.Cases as osc
use Rattle.drive.specs.Cases as drive
use Rattle.lines.specs.Lines.{delay_line, chorus_line}
use Rattle.lines.specs.Cases as lines
use Rattle.value.specs.Modulators.{lfo_phase}
use Rattle.control.specs.Moves.{glided}

-- osc, triangle, at 0, 0.25, 0.5, 0.75: -1, 0, 1, 0
pub triangle :
    (osc_of Triangle zero ≡ fin true 1 (pos 0))
    × (osc_of Triangle (of_bits binary32 0x3e80_0000) ≡ fin false 0 (pos 0))
    × (osc_of Triangle half ≡ fin false 1 (pos 0))
    × (osc_of Triangle (of_bits binary32 0x3f40_0000) ≡ fin false 0 (pos 0))
triangle = (osc.triangle-at-0, osc.triangle-at-quarter, osc.triangle-at-half, osc.triangle-at-three-quarters)

-- poly_blep with a step of 0.25 at 0, 0.5, 0.75: -1, 0, 0; with a step of 0: 0
pub blep :
    (poly_blep zero (of_bits binary32 0x3e80_0000) ≡ fin true 1 (pos 0))
    × (poly_blep half (of_bits binary32 0x3e80_0000) ≡ fin false 0 (pos 0))
    × (poly_blep (of_bits binary32 0x3f40_0000) (of_bits binary32 0x3e80_0000) ≡ fin false 0 (pos 0))
    × ((t : Float) → poly_blep t zero ≡ fin false 0 (pos 0))
blep = (osc.blep-at-0, osc.blep-at-half, osc.blep-at-three-quarters, osc.blep-without-step)

-- the fold of 2.5: -0.5; of an infinity: 0; of 2049: 1
pub fold :
    (drive_of Fold (of_bits binary32 0x4020_0000) ≡ fin true 1 (negsuc 0))
    × (drive_of Fold (inf false) ≡ fin false 0 (pos 0))
    × (drive_of Fold (of_bits binary32 0x4500_1000) ≡ fin false 1 (pos 0))
fold = (drive.fold-of-2-5, drive.fold-of-infinity, drive.fold-of-2049)

-- the fold of 2053: -1, since the 1,025th fold leaves -3, which is clamped
pub last-fold : drive_of Fold (of_bits binary32 0x4500_5000) ≡ fin true 1 (pos 0)
last-fold = drive.fold-of-2053

-- the hard curve's antiderivative of 0.5 and 2: 0.125 and 1.5
pub antiderivative : (antiderivative_of Hard half ≡ fin false 1 (negsuc 2)) × (antiderivative_of Hard two ≡ fin false 3 (negsuc 0))
antiderivative = (drive.hard-antiderivative-of-half, drive.hard-antiderivative-of-2)

-- from pitch 1, target 2, glide 0.5: 1.5, 1.75, 1.875
pub glide : (glided one two half ≡ fin false 3 (negsuc 0)) × (glided (glided one two half) two half ≡ fin false 7 (negsuc 1)) × (glided (glided (glided one two half) two half) two half ≡ fin false 15 (negsuc 2))
unfolding of_bits add sub mul
glide = (refl, refl, refl)

-- a delay at 8,000 Hz: 0.5 s 4,000 cells; -1 s 1; NaN 240,000
pub delay : (delay_line (of_bits binary32 0x3f00_0000) 8000 ≡ 4000) × (delay_line (of_bits binary32 0xbf80_0000) 8000 ≡ 1) × (delay_line nan 8000 ≡ 240000)
delay = (lines.delay-1, lines.delay-2, lines.delay-3)

-- a chorus with a depth of NaN, at any rate: a line of 2
pub chorus : (sr : ℕ) → chorus_line nan sr ≡ 2
chorus = lines.chorus-1

-- an LFO's triangle at a rate of -1, 8,000 Hz, sample 2,000: phase -0.25, shape -2
pub lfo :
    (lfo_phase (of_bits binary32 0xbf80_0000) (of_int binary32 (pos 8000)) 2000 ≡ fin true 1 (negsuc 1))
    × (osc_of Triangle (lfo_phase (of_bits binary32 0xbf80_0000) (of_int binary32 (pos 8000)) 2000) ≡ fin true 1 (pos 1))
unfolding lfo_phase osc_of whole_of of_bits of_int lt sub mul div neg
lfo = (refl, refl)

-- as f32, 16,777,217 is 16,777,216 and 16,777,219 is 16,777,220
pub single : (of_int binary32 (pos 16777217) ≡ fin false 1 (pos 24)) × (of_int binary32 (pos 16777219) ≡ fin false 4194305 (pos 2))
unfolding of_int
single = (refl, refl)
