-- The header fits since an accepted sheet has a rate of at most 192,000.
use Rattle.std.proofs.Common.{refl, arith}
use Rattle.sheet.specs.Accepted.{accepted}
use Rattle.render_voice.proofs.Laws.{built}
use Rattle.render_voice.proofs.render.Goals as goal

pub count-samples-requires : goal.count-samples-requires
count-samples-requires g c = (built c.in_ok-c.ensures refl, c.requires.bound)

pub rate-requires : goal.rate-requires
rate-requires g c = omega (arith, (accepted c.args.sheet.now (built c.in_ok-c.ensures refl)).long)

pub header-requires : goal.header-requires
header-requires g c =
    let a = accepted c.args.sheet.now (built c.in_ok-c.ensures refl) in
    (omega (arith, c.count-samples.ensures.1), omega (arith, a.rate_most, c.rate.ensures))
