-- The option numbers of the sheet, in the orders of the Rust's enums. A number past the last is the last: check 3 refuses it in a sheet.
use Rattle.std.specs.Prelude.{ℕ, ◌%◌, cond, eqb}
use Rattle.dsl.specs.declared.Shape.{Shape}
use Rattle.dsl.specs.declared.Shape.TheVariants as shape
use Rattle.dsl.specs.declared.Curve.{Curve}
use Rattle.dsl.specs.declared.Curve.TheVariants as curve
use Rattle.dsl.specs.declared.DriveShape.{DriveShape}
use Rattle.dsl.specs.declared.DriveShape.TheVariants as drive
use Rattle.dsl.specs.declared.NoiseColor.{NoiseColor}
use Rattle.dsl.specs.declared.NoiseColor.TheVariants as color
use Rattle.dsl.specs.declared.SuperWave.{SuperWave}
use Rattle.dsl.specs.declared.SuperWave.TheVariants as wave

unfoldable pub shape_of : ℕ → Shape
shape_of n = cond (eqb n 0) shape.Sine (cond (eqb n 1) shape.Square (cond (eqb n 2) shape.Triangle shape.Saw))

unfoldable pub curve_of : ℕ → Curve
curve_of n = cond (eqb n 0) curve.Lin curve.Exp

unfoldable pub drive_shape_of : ℕ → DriveShape
drive_shape_of n = cond (eqb (n % 3) 0) drive.Tanh (cond (eqb (n % 3) 1) drive.Hard drive.Fold)

unfoldable pub noise_color_of : ℕ → NoiseColor
noise_color_of n = cond (eqb n 0) color.White (cond (eqb n 1) color.Pink color.Brown)

unfoldable pub super_wave_of : ℕ → SuperWave
super_wave_of n = cond (eqb n 0) wave.Sawtooth wave.Square
