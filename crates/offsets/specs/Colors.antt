-- The number of each colour of noise in the sheet, and what a Noise needs by it.
use Rattle.std.specs.Prelude.{◌≡◌, refl, ℕ, zero, suc}
use Rattle.std.proofs.Common.{arith, ne_eqb}
use Rattle.dsl.specs.declared.NoiseColor.{NoiseColor}
use Rattle.dsl.specs.declared.NoiseColor.TheVariants as color
use Rattle.dsl.specs.Options.{noise_color_of}
use Rattle.layout.specs.Needs.{noise_cells}

unfoldable pub color_number : NoiseColor → ℕ
color_number color.White = 0
color_number color.Pink = 1
color_number color.Brown = 2

-- a number past the last colour's is the last
pub noise_cells_color : (n : ℕ) → noise_cells (color_number (noise_color_of n)) ≡ noise_cells n
unfolding noise_color_of color_number
noise_cells_color zero = refl
noise_cells_color (suc zero) = refl
noise_cells_color (suc (suc n)) = rw (ne_eqb (suc (suc n)) 0 (λ e. omega arith), ne_eqb (suc (suc n)) 1 (λ e. omega arith))
