-- By the case of the record.
use Prim.Native.Nat.{◌<◌}
use native.Mathlib.Omega.{arith}
use Rattle.sheet.specs.Record.{record_at}
use Rattle.layout.specs.Needs.{need_of}
use Rattle.layout.specs.Tables.{first-low}
use Rattle.value_block.specs.Steps.{slide_step, lfo_step, env_mod_step}
use Rattle.unit.specs.Values.{value_unit}
use Rattle.unit.specs.Block.{moment-position}
use Rattle.unit.specs.Lent.{lent-cells, lent-registers}
use Rattle.value_unit.specs.Laws.{arp_step, arp-case, rand-case, told, value_is, stateless-ran, constant-ran}
use Rattle.value_unit.proofs.play.Goals as goal

-- the chain that a record names begins inside the sheet
pub invariant_of-chain-clause-inside : goal.invariant_of-chain-clause-inside
invariant_of-chain-clause-inside c =
    let f = arp-case c.args.val (record_at c.args.sheet.now c.args.i) (told c.args.val c.requires.0 (rw c.at.ensures at c.value.ensures) c.in-Arp.is) in
    let i : c.args.i < c.args.count = omega (arith, c.requires.0.inside, c.requires.1.count) in
    rw f (first-low c.args.sheet.now c.args.count c.requires.1 c.args.i i)

pub rand-requires : goal.rand-requires
unfolding need_of
rand-requires c =
    let k = rand-case c.args.val (record_at c.args.sheet.now c.args.i) (told c.args.val c.requires.0 (rw c.at.ensures at c.value.ensures) c.in-Rand.is) in
    (lent-cells c.requires.0 46 k, lent-registers c.requires.0 46 k)

pub returns-in-Const : goal.returns-in-Const
unfolding value_unit
returns-in-Const c =
    rw (value_is c.args.val c.requires.0 (rw c.at.ensures at c.value.ensures) c.in-Const.is) (constant-ran _ c.args.c c.fill_block.ensures)

pub returns-in-Slide : goal.returns-in-Slide
unfolding value_unit slide_step
returns-in-Slide c =
    rw (value_is c.args.val c.requires.0 (rw c.at.ensures at c.value.ensures) c.in-Slide.is) (stateless-ran _ _ c.args.c c.slide_block.ensures (λ k. rw (moment-position k c.args.c, c.slide_secs.ensures, c.srf_of-srf.ensures)))

pub returns-in-Lfo : goal.returns-in-Lfo
unfolding value_unit lfo_step
returns-in-Lfo c =
    rw (value_is c.args.val c.requires.0 (rw c.at.ensures at c.value.ensures) c.in-Lfo.is) (stateless-ran _ _ c.args.c c.lfo_block.ensures (λ k. rw (moment-position k c.args.c, c.srf_of-srf.ensures)))

pub returns-in-Arp : goal.returns-in-Arp
unfolding value_unit arp_step
returns-in-Arp c =
    let f = arp-case c.args.val (record_at c.args.sheet.now c.args.i) (told c.args.val c.requires.0 (rw c.at.ensures at c.value.ensures) c.in-Arp.is) in
    rw (value_is c.args.val c.requires.0 (rw c.at.ensures at c.value.ensures) c.in-Arp.is) (stateless-ran _ _ c.args.c c.arp.ensures (λ k. rw (moment-position k c.args.c, c.srf_of-srf.ensures, f)))

pub returns-in-EnvMod : goal.returns-in-EnvMod
unfolding value_unit env_mod_step
returns-in-EnvMod c =
    rw (value_is c.args.val c.requires.0 (rw c.at.ensures at c.value.ensures) c.in-EnvMod.is) (stateless-ran _ _ c.args.c c.env_mod_block.ensures (λ k. rw (moment-position k c.args.c, c.release_start-release.ensures, c.length.ensures, c.srf_of-srf.ensures)))

pub returns-in-Rand : goal.returns-in-Rand
unfolding value_unit
returns-in-Rand c =
    let q = c.rand.ensures c.args.c in
    rw (value_is c.args.val c.requires.0 (rw c.at.ensures at c.value.ensures) c.in-Rand.is) (rw c.srf_of-srf.ensures at q)
