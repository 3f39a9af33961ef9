use Rattle.std.proofs.Common.{rules}
use Rattle.value.specs.Modulators.{slide_of}
use Rattle.value_block.specs.Steps.{slide_step}
use Rattle.value_block.proofs.slide_block.Goals as goal

pub returns-then-t-out-le16777216 : goal.returns-then-t-out-le16777216
unfolding slide_step slide_of
returns-then-t-out-le16777216 c = let e = c.from-e.ensures in (c.run_block.ensures (slide_step _ _ _) (λ k s r h p. search rules)).0

pub returns-else-t-out-le16777216 : goal.returns-else-t-out-le16777216
unfolding slide_step slide_of
returns-else-t-out-le16777216 c = let e = c.from-e.ensures in (c.run_block-else-t-out-le16777216.ensures (slide_step _ _ _) (λ k s r h p. search rules)).0
