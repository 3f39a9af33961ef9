use mathlib.Core.Path.{refl}
use native.Mathlib.Omega.{arith}
use lib.ListN.{length}
use Rattle.control.specs.Moves.{moved}
use Rattle.layout.specs.Good.{good}
use Rattle.machine.proofs.Samples.{later-position}
use Rattle.walk.specs.Nodes.{root_node}
use Rattle.walk.specs.Walk.{voiced, Ready, ready-same}
use Rattle.streaming.specs.Run.{blocked}
use Rattle.streaming.proofs.block.Goals as goal

pub source-requires : goal.source-requires
unfolding moved
source-requires c =
    let p = (voiced c.args.plan.now.made.passed).passed in
    let r : Ready _ _ (length c.args.out.now) _ _ = record { pitched = rw c.requires.5 at c.glide_block-r.ensures.1; short = c.requires.2; early = omega (arith, c.requires.6); first_buffer = c.requires.3; second_buffer = c.requires.4 } in (
      rw c.glide_on.ensures (ready-same r c.fill_block.auto.out refl refl),
      c.requires.0,
      c.requires.1,
      p.some,
      root_node _ (good _ p.passed),
    )

pub returns : goal.returns
returns c =
    let n = length c.args.out.now in (
      rw (c.glide_block-r.ensures.0, c.requires.5) (later-position n c.args.c),
      rw (c.glide_block-r.ensures.0, c.requires.5) (blocked (voiced c.args.plan.now.made.passed) c.args.c c.args.out.now _ _ _ _ _ _ _ n refl c.requires.1 (rw (c.glide_on.ensures, c.fill_block.ensures) at c.source.ensures)),
    )
