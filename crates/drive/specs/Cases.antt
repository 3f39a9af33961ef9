-- The starred cases of document 01 that are these kernels', each by computation from the definition that the contract cites. `fin s m e` is m * 2 ^ e, negative where s is true: -1 is `fin true 1 (pos 0)`, and 0.125 `fin false 1 (negsuc 2)`.
use Rattle.std.specs.Prelude.{◌≡◌, refl, true, false, pos, negsuc}
use Rattle.std.specs.Float.{inf, fin, binary32}
use Rattle.std.specs.Float.Ieee.{neg, sub, mul, lt, le, of_bits}
use Rattle.float.specs.Order.{abs_of, is_finite, clamp_of}
use Rattle.float.specs.Single.{half, two}
use Rattle.dsl.specs.declared.DriveShape.TheVariants.{Hard, Fold}
use Rattle.drive.specs.Drive.{fold_by, fold_of, drive_of, antiderivative_of}

-- ---- the fold of 2.5, infinity, 2049 and 2053: -0.5, 0, 1 and -1, since the 1,025th fold leaves -3, which is clamped
pub fold-of-2-5 : drive_of Fold (of_bits binary32 0x4020_0000) ≡ fin true 1 (negsuc 0)
unfolding drive_of fold_of fold_by is_finite clamp_of lt sub neg of_bits
fold-of-2-5 = refl

pub fold-of-infinity : drive_of Fold (inf false) ≡ fin false 0 (pos 0)
unfolding drive_of fold_of fold_by is_finite clamp_of lt sub neg of_bits
fold-of-infinity = refl

pub fold-of-2049 : drive_of Fold (of_bits binary32 0x4500_1000) ≡ fin false 1 (pos 0)
unfolding drive_of fold_of fold_by is_finite clamp_of lt sub neg of_bits
fold-of-2049 = refl

pub fold-of-2053 : drive_of Fold (of_bits binary32 0x4500_5000) ≡ fin true 1 (pos 0)
unfolding drive_of fold_of fold_by is_finite clamp_of lt sub neg of_bits
fold-of-2053 = refl

-- ---- the hard curve's antiderivative of 0.5 and 2: 0.125 and 1.5
pub hard-antiderivative-of-half : antiderivative_of Hard half ≡ fin false 1 (negsuc 2)
unfolding antiderivative_of abs_of le sub mul of_bits
hard-antiderivative-of-half = refl

pub hard-antiderivative-of-2 : antiderivative_of Hard two ≡ fin false 3 (negsuc 0)
unfolding antiderivative_of abs_of le sub mul of_bits
hard-antiderivative-of-2 = refl
