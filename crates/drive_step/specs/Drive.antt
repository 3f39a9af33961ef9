-- Drive for one sample, x: the curve itself, or its average from the last sample to this one, and at the middle where the two are nearly the same; then a DC blocker.
use Rattle.std.specs.Prelude.{cond, Float}
use Rattle.std.specs.Float.{binary32}
use Rattle.std.specs.Float.Ieee.{lt, of_bits}
use Rattle.float.specs.Order.{abs_of, max_of}
use Rattle.float.specs.Single.{◌⊕◌, ◌⊖◌, ◌⊗◌, ◌⊘◌, zero, half}
use Rattle.drive.specs.Drive.{drive_of, antiderivative_of}
use Rattle.dsl.specs.declared.DriveShape.{DriveShape}
use Rattle.drive_step.specs.declared.Drive.{Drive}

abbrev pub driven : Float → Float → Float
driven amount x = max_of amount zero ⊗ x

unfoldable pub average_of : DriveShape → Float → Float → Float → Float → Float
average_of shape xn f xPrev fPrev =
    let d = xn ⊖ xPrev in
    cond (lt (of_bits binary32 0x3727_c5ac) (abs_of d)) ((f ⊖ fPrev) ⊘ d) (drive_of shape (half ⊗ (xn ⊕ xPrev)))

-- past the DC blocker: y is the average. The sample, and the state then
abbrev pub blocked : Float → Float → Float → Drive → Float × Drive
blocked y xn f s = let yb = y ⊖ s.dc_x ⊕ of_bits binary32 0x3f7f_df3b ⊗ s.dc_y in (yb, record { x_prev = xn; f_prev = f; dc_x = y; dc_y = yb })

-- from the amplified sample and its antiderivative
unfoldable pub drive_by : DriveShape → Float → Float → Drive → Float × Drive
drive_by shape xn f s = blocked (average_of shape xn f s.x_prev s.f_prev) xn f s

unfoldable pub drive_step : DriveShape → Float → Drive → Float → Float × Drive
drive_step shape amount s x = let xn = driven amount x in drive_by shape xn (antiderivative_of shape xn) s

unfoldable pub drive_plain : DriveShape → Float → Float → Float
drive_plain shape amount x = drive_of shape (driven amount x)
