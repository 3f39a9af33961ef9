use mathlib.Core.Path.{sym, ap, ◌∙◌, subst}
use lib.Dec.{T}
use lib.Ieee.{binary32, of_bits}
use lib.Ieee.Bits.{of_bits-to_bits}
use borrow.Author.Tests.{eqb-true}
use Rattle.float.proofs.same.Goals as goal

pub returns : goal.returns
returns c e =
    let bits = sym c.to_bits.ensures ∙ eqb-true _ _ e ∙ c.to_bits-2.ensures in
    sym (of_bits-to_bits binary32 c.args.a (subst T (sym c.well_formed.0.1) tt)) ∙ ap (of_bits binary32) bits ∙ of_bits-to_bits binary32 c.args.b (subst T (sym c.well_formed.1.0.1) tt)
