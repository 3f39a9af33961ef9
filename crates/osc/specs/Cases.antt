-- The starred cases of document 01 that are these kernels', each by computation from the definition that the contract cites. `fin s m e` is m * 2 ^ e, negative where s is true: -1 is `fin true 1 (pos 0)`, and 0.125 `fin false 1 (negsuc 2)`.
use Rattle.std.specs.Prelude.{◌≡◌, refl, true, false, pos, Float}
use Rattle.std.specs.Float.{fin, binary32}
use Rattle.std.specs.Float.Ieee.{add, sub, mul, div, lt, le, of_bits}
use Rattle.float.specs.Single.{zero, half}
use Rattle.dsl.specs.declared.Shape.TheVariants.{Triangle}
use Rattle.osc.specs.Osc.{poly_blep, osc_of}

abbrev quarter : Float
quarter = of_bits binary32 0x3e80_0000

abbrev three_quarters : Float
three_quarters = of_bits binary32 0x3f40_0000

-- ---- the triangle at 0, 0.25, 0.5 and 0.75: -1, 0, 1, 0
pub triangle-at-0 : osc_of Triangle zero ≡ fin true 1 (pos 0)
unfolding osc_of lt mul sub of_bits
triangle-at-0 = refl

pub triangle-at-quarter : osc_of Triangle quarter ≡ fin false 0 (pos 0)
unfolding osc_of lt mul sub of_bits
triangle-at-quarter = refl

pub triangle-at-half : osc_of Triangle half ≡ fin false 1 (pos 0)
unfolding osc_of lt mul sub of_bits
triangle-at-half = refl

pub triangle-at-three-quarters : osc_of Triangle three_quarters ≡ fin false 0 (pos 0)
unfolding osc_of lt mul sub of_bits
triangle-at-three-quarters = refl

-- ---- PolyBLEP with a step of 0.25 at 0, 0.5 and 0.75: -1, 0, 0; with a step of 0, wherever: 0
pub blep-at-0 : poly_blep zero quarter ≡ fin true 1 (pos 0)
unfolding poly_blep le lt add sub mul div of_bits
blep-at-0 = refl

pub blep-at-half : poly_blep half quarter ≡ fin false 0 (pos 0)
unfolding poly_blep le lt add sub mul div of_bits
blep-at-half = refl

pub blep-at-three-quarters : poly_blep three_quarters quarter ≡ fin false 0 (pos 0)
unfolding poly_blep le lt add sub mul div of_bits
blep-at-three-quarters = refl

pub blep-without-step : (t : Float) → poly_blep t zero ≡ fin false 0 (pos 0)
unfolding poly_blep le of_bits
blep-without-step t = refl
