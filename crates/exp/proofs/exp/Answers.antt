use mathlib.Core.Path.{◌≡◌, refl, ap, ◌∙◌}
use lib.Ieee.{binary64, of_bits}
use Rattle.ieee.proofs.Tests.{yes}
use Rattle.cast.proofs.Normal.{neg-neg}
use Rattle.exp.specs.Exp.{exp_of}
use Rattle.exp.proofs.Above.{least, most}
use Rattle.exp.proofs.exp.Goals as goal

near : of_bits binary64 0x3e10_0000_0000_0000 ≡ least
unfolding of_bits
near = refl

far : of_bits binary64 0x4070_0000_0000_0000 ≡ most
unfolding of_bits
far = refl

pub exp_above-requires : goal.exp_above-requires
exp_above-requires c = record { least = yes (rw near at c.if-x.true); most = yes (rw far at c.if-x-2.true) }

pub exp_minus-requires : goal.exp_minus-requires
exp_minus-requires c = record { least = yes (rw near at c.if-m.true); most = yes (rw far at c.if-m-2.true) }

pub returns-then-m-2 : goal.returns-then-m-2
returns-then-m-2 c = c.exp_minus.ensures ∙ ap exp_of (neg-neg c.args.x)
