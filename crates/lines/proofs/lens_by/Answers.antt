use Rattle.std.proofs.Common.{◌∷◌, [], arith}
use Rattle.lines.proofs.Lengths.{tunings}
use Rattle.lines.proofs.lens_by.Goals as goal

pub tuned-requires : goal.tuned-requires
tuned-requires g c = rw tunings.0 (c.requires 1116 (omega arith))

pub tuned-requires-2 : goal.tuned-requires-2
tuned-requires-2 g c = rw tunings.1 (c.requires 1188 (omega arith))

pub tuned-requires-3 : goal.tuned-requires-3
tuned-requires-3 g c = rw tunings.2 (c.requires 1277 (omega arith))

pub tuned-requires-4 : goal.tuned-requires-4
tuned-requires-4 g c = rw tunings.3 (c.requires 1356 (omega arith))

pub tuned-requires-5 : goal.tuned-requires-5
tuned-requires-5 g c = rw tunings.4 (c.requires 1422 (omega arith))

pub tuned-requires-6 : goal.tuned-requires-6
tuned-requires-6 g c = rw tunings.5 (c.requires 1491 (omega arith))

pub tuned-requires-7 : goal.tuned-requires-7
tuned-requires-7 g c = rw tunings.6 (c.requires 556 (omega arith))

pub tuned-requires-8 : goal.tuned-requires-8
tuned-requires-8 g c = rw tunings.7 (c.requires 441 (omega arith))

pub tuned-requires-9 : goal.tuned-requires-9
tuned-requires-9 g c = rw tunings.8 (c.requires 341 (omega arith))

pub tuned-requires-10 : goal.tuned-requires-10
tuned-requires-10 g c = rw tunings.9 (c.requires 225 (omega arith))

pub returns : goal.returns
returns g c = λ f e i.
    e 1116 _ (rw tunings.0 at c.tuned.ensures) i
    ∷ e 1188 _ (rw tunings.1 at c.tuned-2.ensures) i
    ∷ e 1277 _ (rw tunings.2 at c.tuned-3.ensures) i
    ∷ e 1356 _ (rw tunings.3 at c.tuned-4.ensures) i
    ∷ e 1422 _ (rw tunings.4 at c.tuned-5.ensures) i
    ∷ e 1491 _ (rw tunings.5 at c.tuned-6.ensures) i
    ∷ e 556 _ (rw tunings.6 at c.tuned-7.ensures) i
    ∷ e 441 _ (rw tunings.7 at c.tuned-8.ensures) i
    ∷ e 341 _ (rw tunings.8 at c.tuned-9.ensures) i
    ∷ e 225 _ (rw tunings.9 at c.tuned-10.ensures) i
    ∷ []
