use mathlib.Core.Path.{◌≡◌, sym, ap, ◌∙◌, subst}
use Prim.Native.Nat.{◌%◌}
use lib.Ieee.{Float, binary64, div}
use lib.Ieee.Fits.{div-fits}
use lib.Ieee.Positive.{num, den}
use Rattle.trig.specs.Trig.{frac_pi2, quadrant_of}
use Rattle.double.proofs.Small.{rounded-whole}
use Rattle.double.proofs.Tests.{cast-read}
use Rattle.trig.proofs.sin_turned.Goals as goal
use Rattle.trig.proofs.sin_turned.Goals.{After-round_f64-q}

whole : (c : After-round_f64-q) → num c.round_f64-q.result % den c.round_f64-q.result ≡ 0
whole c =
    let r = c.args.r in
    subst (λ (w : Float). num w % den w ≡ 0) (sym c.round_f64-q.ensures) (rounded-whole (div binary64 r frac_pi2) (div-fits binary64 r frac_pi2))

pub whole_by_i64-requires : goal.whole_by_i64-requires
whole_by_i64-requires c = whole c

pub whole_to_i64-requires : goal.whole_to_i64-requires
whole_to_i64-requires c = whole c.before

pub returns : goal.returns
returns c =
    let quarter = c.quadrant.ensures ∙ ap quadrant_of (cast-read c.whole_to_i64.result c.round_f64-q.result c.whole_to_i64.ensures) in
    rw (c.turn.ensures, quarter, c.whole_by_i64.ensures, c.round_f64-q.ensures)
