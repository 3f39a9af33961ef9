-- `cast::narrow_normal` meets its contract.
use Rattle.std.proofs.Common.{T, sym, subst}
use Rattle.cast.proofs.Normal.{Normal, normal, fits-narrow, no-nan-pattern}
use Rattle.cast.proofs.narrow_normal.Goals as goal
use Rattle.cast.proofs.narrow_normal.Goals.{Start}

known : (c : Start) → Normal c.args.x
known c = normal c.args.x (subst T (sym c.well_formed.0.1) tt) c.requires.number c.requires.not_below c.requires.not_above

pub float_to_bits-bits : goal.float_to_bits-bits
float_to_bits-bits c = (known c).number

pub overflow_add-up-2 : goal.overflow_add-up-2
overflow_add-up-2 c = record { fits = (known c).small }

pub float_from_bits-result : goal.float_from_bits-result
float_from_bits-result c = no-nan-pattern c.args.x (known c)

pub float_to_float-result : goal.float_to_float-result
float_to_float-result c = fits-narrow c.args.x (known c.before)

pub returns : goal.returns
returns c = (known c.before).gives
