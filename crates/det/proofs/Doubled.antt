-- What `tanh_above` cites: 2 x lies where `exp_above` serves, for an x that is neither above 20 nor below 0.25.
use mathlib.Core.Path.{◌≡◌, refl, sym, subst}
use mathlib.Core.Bool.{false, not}
use lib.IntN.{pos, negsuc}
use lib.Dec.{T}
use lib.Ieee.{Float, fin, binary64, lt, le, mul, is_nan, of_bits}
use lib.Ieee.Positive.{between, above_of_le, le_trans_positive, mul_mono}
use Rattle.ieee.proofs.Tests.{two_to, is_false}
use Rattle.double.specs.Double.{two}
use Rattle.double.proofs.Tests.{le-of-not-below, le-of-not-above}
use Rattle.exp.proofs.Above.{least, most}
use Rattle.det.specs.Tanh.{twenty, quarter}

quarter-is : quarter ≡ fin false 1 (negsuc 1)
unfolding of_bits
quarter-is = refl

twenty-is : twenty ≡ fin false 5 (pos 2)
unfolding of_bits
twenty-is = refl

two_is : two ≡ fin false 1 (pos 1)
unfolding of_bits
two_is = refl

low-double : mul binary64 (fin false 1 (pos 1)) (fin false 1 (negsuc 30)) ≡ least
unfolding mul
low-double = refl

high-double : mul binary64 (fin false 1 (pos 1)) (two_to 7) ≡ most
unfolding mul
high-double = refl

pub doubled : (x : Float) → T (not (is_nan x)) → lt twenty x ≡ false → lt x quarter ≡ false → T (le least (mul binary64 two x)) × T (le (mul binary64 two x) most)
doubled x n h l =
    let from = le-of-not-below (fin false 1 (negsuc 1)) x tt (is_false (is_nan x) n) (subst (λ (v : Float). lt x v ≡ false) quarter-is l) in
    let to = le-of-not-above x (fin false 5 (pos 2)) (above_of_le (fin false 1 (negsuc 1)) x tt from) tt (subst (λ (v : Float). lt v x ≡ false) twenty-is h) in
    let p = between (fin false 1 (negsuc 1)) x (fin false 5 (pos 2)) tt tt from to in
    let from' = le_trans_positive (fin false 1 (negsuc 30)) (fin false 1 (negsuc 1)) x tt tt p (unfold le in tt) from in
    let to' = le_trans_positive x (fin false 5 (pos 2)) (two_to 7) p tt tt to (unfold le in tt) in
    subst (λ (v : Float). T (le least (mul binary64 v x)) × T (le (mul binary64 v x) most)) (sym two_is) (
      subst (λ (v : Float). T (le v (mul binary64 (fin false 1 (pos 1)) x))) low-double (mul_mono binary64 (fin false 1 (pos 1)) (fin false 1 (pos 1)) (fin false 1 (negsuc 30)) x tt tt tt p (unfold le in tt) from'),
      subst (λ (v : Float). T (le (mul binary64 (fin false 1 (pos 1)) x) v)) high-double (mul_mono binary64 (fin false 1 (pos 1)) (fin false 1 (pos 1)) x (two_to 7) tt tt p tt (unfold le in tt) to'),
    )
