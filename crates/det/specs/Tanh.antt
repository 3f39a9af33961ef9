-- tanh from e ^ 2x, and near 0 from e ^ 2x - 1, which loses no digits there.
use Rattle.std.specs.Prelude.{cond, Float}
use Rattle.std.specs.Float.{nan}
use Rattle.std.specs.Float.Ieee.{neg, lt, is_nan}
use Rattle.double.specs.Double.{◌⊕◌, ◌⊖◌, ◌⊗◌, ◌⊘◌, bits, zero, one, two}
use Rattle.exp.specs.Exp.{exp_of, expm1_small}

abbrev pub twenty : Float
twenty = bits 0x4034_0000_0000_0000

abbrev pub quarter : Float
quarter = bits 0x3fd0_0000_0000_0000

-- the sign times tanh x, for an x that is not below 0
unfoldable pub tanh_above : Float → Float → Float
tanh_above x sign =
    let e = expm1_small (two ⊗ x) in
    cond (lt twenty x) sign (cond (lt x quarter) (sign ⊗ (e ⊘ (e ⊕ two))) (sign ⊗ (one ⊖ two ⊘ (exp_of (two ⊗ x) ⊕ one))))

unfoldable pub tanh_of : Float → Float
tanh_of x = cond (is_nan x) nan (cond (lt x zero) (tanh_above (neg x) (neg one)) (tanh_above x one))
