use Rattle.std.proofs.Common.{◌∙◌, sym, subst, T}
use Rattle.sqrt.proofs.Roots.{sqrt-is}
use Rattle.sqrt.proofs.sqrt.Goals as goal

pub returns : goal.returns
returns c = c.sqrt.ensures.value ∙ sqrt-is c.args.x (subst T (sym c.well_formed.0.1) tt)
