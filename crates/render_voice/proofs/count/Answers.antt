-- `render_voice::count` meets its contract: an accepted sheet has a rate of at most 192,000. Assumes nothing.
use Rattle.std.proofs.Common.{ℕ, ◌*◌, ap, arith}
use Rattle.sheet.specs.Accepted.{accepted}
use Rattle.render_voice.proofs.Laws.{most-samples}
use Rattle.render_voice.proofs.count.Goals as goal

pub rate-requires : goal.rate-requires
rate-requires c = omega (arith, (accepted c.args.sheet.now c.requires.0).long)

pub overflow_mul-result : goal.overflow_mul-result
overflow_mul-result c =
    let a = accepted c.args.sheet.now c.requires.0 in
    record { fits = omega (arith, most-samples c.rate.result c.args.seconds (omega (arith, a.rate_most, c.rate.ensures)) c.requires.1) }

pub returns : goal.returns
returns c =
    let a = accepted c.args.sheet.now c.requires.0 in
    (ap (λ (n : ℕ). n * c.args.seconds) c.rate.ensures, most-samples c.rate.result c.args.seconds (omega (arith, a.rate_most, c.rate.ensures)) c.requires.1)
