use Rattle.std.proofs.Common.{length, ◌∙◌, rules}
use Rattle.std.proofs.lemmas.List.{length-take-le}
use Rattle.proc_block.specs.Steps.{driven_step, drive_step_at}
use Rattle.proc_block.proofs.Passes.{given-drive, after-drive}
use Rattle.proc_block.proofs.drive_block.Goals as goal

pub returns-in-Tanh : goal.returns-in-Tanh
unfolding driven_step
returns-in-Tanh c =
    let a = c.args in
    let e = c.drive_averages.ensures in
    let long = length-take-le (length a.out.now) a.buf.now c.requires.1 in
    let fs = c.drive_ln_coshes.ensures in
    let ds = c.drive_decays.ensures in
    let ys = (c.run_block.ensures (driven_step _ _) (λ k s r h p. search rules)).0 in
    let is = c.in-Tanh.is in
    (rw is (e.0 ∙ given-drive _ _ _ _ _ _ long ys ds fs _), rw is (e.1 ∙ after-drive _ _ _ _ _ _ long ys ds fs _))

pub returns-in_default : goal.returns-in_default
unfolding drive_step_at
returns-in_default c = c.run_block-in_default.ensures (drive_step_at _ _ _) (λ k s r h p. search rules)
