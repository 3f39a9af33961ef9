use native.Mathlib.Omega.{arith}
use lib.ListN.{length}
use Rattle.layout.specs.Good.{good}
use Rattle.proc_unit.specs.Fit.{fits, room, unit-of}
use Rattle.proc_unit.proofs.play.Goals as goal

pub processor-requires : goal.processor-requires
processor-requires c =
    let p = c.requires in (
      omega (arith, c.rate.ensures, (good _ p.lent.passed).fastest),
      rw c.rate.ensures (fits _ _ _ p.lent (λ z. (p.own z).0)),
      room c.args.proc (length c.args.out.now) (length c.args.v.now) (length c.args.buf.now) c.args.c.position p.value p.buffer (λ z. (p.own z).1),
    )

pub returns : goal.returns
returns c = rw (unit-of _ c.requires.lent c.at-r.ensures c.rate.ensures) c.processor.ensures
