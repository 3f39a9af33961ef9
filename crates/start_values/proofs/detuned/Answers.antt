use borrow.Author.Tests.{eq-eqb, ne_eqb}
use Rattle.unit.specs.Start.{detune}
use Rattle.start_values.proofs.detuned.Goals as goal

pub returns-then-n-eq1 : goal.returns-then-n-eq1
unfolding detune
returns-then-n-eq1 c = rw (eq-eqb c.args.n 1 c.if-n-eq1.true)

pub returns : goal.returns
unfolding detune
returns c = rw (ne_eqb c.args.n 1 c.if-n-eq1.false, c.u64_to_f32-2.ensures, c.u64_to_f32.ensures)
