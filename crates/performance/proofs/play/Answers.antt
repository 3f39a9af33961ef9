use Rattle.performance.specs.List.{fitting, performed, not-performed}
use Rattle.performance.proofs.play.Goals as goal

pub returns-then-calls-answers : goal.returns-then-calls-answers
unfolding fitting
returns-then-calls-answers c = performed _ _ _ _ _ _ _ _ _ _ _ _ _ _ _ (rw c.lengths_fit.ensures at c.if-calls-answers.true) c.perform.ensures

pub returns : goal.returns
unfolding fitting
returns c = not-performed _ _ _ _ _ _ _ _ _ (rw c.lengths_fit.ensures at c.if-calls-answers.false)
