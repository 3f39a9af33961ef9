use Rattle.std.proofs.Common.{◌≡◌, sym, ◌∙◌, ℕ, ◌+◌, ◌≤◌, arith, rules}
use Rattle.std.specs.Prelude.{Float}
use borrow.Author.Tests.{le-ltb}
use Rattle.float.specs.Single.{zero}
use Rattle.block.specs.Iterate.{given-still}
use Rattle.unpitched.specs.Others.{impact_of}
use Rattle.source_block.specs.Steps.{impact_step}
use Rattle.source_block.proofs.impact_block.Goals as goal

one-over : (w : ℕ) (norm : Float) (t : ℕ) → w ≤ t → (k : ℕ) (s : Unit {0}) → impact_step w norm t k s ≡ (zero, s)
unfolding impact_step impact_of
one-over w norm t h k s = rw (le-ltb (t + k) w (omega arith))

pub returns-then-t-lobe : goal.returns-then-t-lobe
unfolding impact_step
returns-then-t-lobe c = (c.run_block.ensures (impact_step _ _ _) (λ k s r h p. search rules)).0

pub returns-else-t-lobe : goal.returns-else-t-lobe
returns-else-t-lobe c =
    let a = c.args in
    c.fill_block.ensures ∙ sym (given-still (impact_step a.lobe.w a.lobe.norm a.t) zero (one-over a.lobe.w a.lobe.norm a.t c.if-t-lobe.false) tt a.out.now)
