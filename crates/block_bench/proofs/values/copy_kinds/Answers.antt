use Rattle.std.proofs.Common.{◌≡◌, ◌+◌, ◌*◌, ap, arith}
use Rattle.sheet.specs.Record.{kind_of}
use Rattle.sheet.specs.Laws.{rest}
use Rattle.sheet.specs.Below.{below-start, below-turn}
use Rattle.block_bench.proofs.values.copy_kinds.Goals as goal

pub loop-i-init : goal.loop-i-init
loop-i-init c = below-start _ _

pub loop-i-preserved : goal.loop-i-preserved
loop-i-preserved c =
    let i = c.loop-i.i in
    below-turn c.loop-i.invariant (omega arith) (ap kind_of (rest c.args.sheet.now (24 + 40 * i)))

pub returns : goal.returns
returns c = let e : c.loop-i.i ≡ c.args.n = omega arith in rw (← e) c.loop-i.invariant
