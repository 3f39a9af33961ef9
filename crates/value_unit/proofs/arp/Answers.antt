use Rattle.std.proofs.Common.{◌≡◌, sym, ap, ◌∙◌, ◌+◌, length, arith}
use Rattle.std.specs.Prelude.{Float}
use Rattle.float.specs.Single.{zero}
use Rattle.block.specs.Iterate.{given-still}
use Rattle.value_unit.specs.Laws.{steps_from, arp_step, steps-length, arp-none}
use Rattle.value_unit.proofs.arp.Goals as goal

pub returns-in-0 : goal.returns-in-0
unfolding arp_step
returns-in-0 c =
    let steps = steps_from c.args.chain.sheet.now c.args.chain.first in
    let z : length steps ≡ 0 = steps-length c.args.chain.sheet.now c.args.chain.first ∙ sym c.chain_length.ensures.0 ∙ c.in-0.is in
    c.fill_block.ensures ∙ sym (given-still (arp_step steps c.args.rate c.args.srf c.args.t) zero
    (λ k u. ap {B = Float × Unit {0}} (λ x. (x, u)) (sym (arp-none steps c.args.rate c.args.srf (c.args.t + k) z))) tt c.args.out.now)

pub arp_steps-requires : goal.arp_steps-requires
arp_steps-requires c = (c.chain_length.ensures.0 ∙ sym (steps-length c.args.chain.sheet.now c.args.chain.first), omega arith, c.requires)
