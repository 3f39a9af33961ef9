use Rattle.std.proofs.Common.{refl, sym, ap, ◌∙◌, take}
use lib.Seq.{take_all}
use Rattle.hash.specs.Hash.{mixed, hashed, hashed-more}
use Rattle.hash.proofs.hash_all.Goals as goal

pub loop-x-init : goal.loop-x-init
unfolding hashed
loop-x-init g c = λ w e. refl

pub loop-x-preserved : goal.loop-x-preserved
loop-x-preserved g c = λ w e.
    let l = c.loop-x in
    let xs = c.args.xs.now in
    let x = c.x-item.result in
    c.mix-h.ensures
    ∙ ap (λ h. mixed h c.word.result) (l.invariant w e)
    ∙ ap (mixed (hashed w c.args.first (take l.x-index xs))) (e x c.word.result c.word.ensures ∙ ap w c.x-item.is)
    ∙ sym (hashed-more w c.args.first xs l.x-index x c.loop-x-test.true)

pub returns : goal.returns
returns g c = λ w e. c.loop-x.invariant w e ∙ ap (hashed w c.args.first) (take_all c.loop-x.x-index c.args.xs.now c.loop-x-test.false)
