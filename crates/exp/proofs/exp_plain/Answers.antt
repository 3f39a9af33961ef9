use mathlib.Core.Path.{◌≡◌, sym, ap, ◌∙◌, subst}
use Prim.Native.Nat.{◌%◌}
use lib.Ieee.{Float, binary64, mul}
use lib.Ieee.Fits.{mul-fits}
use lib.Ieee.Positive.{num, den}
use Rattle.exp.specs.Exp.{inv_ln2, power_of_two, exp_of}
use Rattle.double.proofs.Small.{rounded-whole}
use Rattle.double.proofs.Tests.{one-by-zero, cast-read}
use Rattle.exp.proofs.exp_plain.Goals as goal

pub returns-then-x : goal.returns-then-x
unfolding exp_of
returns-then-x c = one-by-zero ∙ rw c.if-x.true

pub returns-then-x-2 : goal.returns-then-x-2
unfolding exp_of
returns-then-x-2 c = rw (c.if-x.false, c.if-x-2.true)

pub whole_to_i64-requires : goal.whole_to_i64-requires
whole_to_i64-requires c =
    let y = mul binary64 c.args.x inv_ln2 in
    subst (λ (w : Float). num w % den w ≡ 0) (sym c.round_f64-k.ensures) (rounded-whole y (mul-fits binary64 c.args.x inv_ln2))

pub returns : goal.returns
unfolding exp_of
returns c =
    let power = c.ldexp2.ensures ∙ ap power_of_two (cast-read c.whole_to_i64.result c.round_f64-k.result c.whole_to_i64.ensures) in
    rw (power, c.exp_poly.ensures, c.round_f64-k.ensures, c.if-x.false, c.if-x-2.false)
