use Rattle.std.proofs.Common.{◌∙◌, arith, rules}
use Rattle.value_unit.specs.Laws.{found_step, found-is-arp}
use Rattle.value_unit.proofs.arp_steps.Goals as goal

pub step_at-requires : goal.step_at-requires
step_at-requires c = omega (arith, c.requires.0, c.requires.1)

pub returns : goal.returns
unfolding found_step
returns c =
    let a = c.args in
    (c.run_block.ensures (found_step a.chain.sheet.now a.chain.first a.n a.rate a.srf a.t) (λ k s r h p. search rules)).0
    ∙ found-is-arp a.chain.sheet.now a.chain.first a.n a.rate a.srf a.t _ c.requires.0 c.requires.1 c.step_at.ensures _
