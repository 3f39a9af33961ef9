use Rattle.std.proofs.Common.{refl, sym, ap, ◌∙◌, arith}
use Rattle.std.specs.Prelude.{Float}
use Rattle.block.specs.Iterate.{at}
use Rattle.block.specs.Loop.{going_start, going-turn}
use Rattle.dsl.specs.declared.DriveShape.{DriveShape}
use Rattle.drive.specs.Drive.{drive_of}
use Rattle.drive_step.specs.Drive.{drive_by}
use Rattle.dsp.specs.Math.{tangent-zero}
-- Both files name the step: the invariant states it, and here it is unfolded.
use Rattle.proc_block.specs.Steps.{drive_by_step}
use Rattle.proc_block.proofs.Whole.{whole_read}
use Rattle.proc_block.proofs.drive_averages.Goals as goal

pub invariant_of-held : goal.invariant_of-held
unfolding drive_of
invariant_of-held c = record { held = sym tangent-zero }

pub loop-k-init : goal.loop-k-init
loop-k-init c = record { going = going_start _ _ _ _; shape = refl }

pub loop-k-preserved : goal.loop-k-preserved
unfolding drive_by_step
loop-k-preserved c =
    let l = c.loop-k in
    let g = l.invariant.going in
    let r = c.step_after.ensures in
    let f = at c.args.fs.now l.k in
    let e =
    r.step
    ∙ ap (λ (x : Float). drive_by l.held.shape x f l.state) (whole_read _ _ _ _ _ _ g)
    ∙ ap (λ (s : DriveShape). drive_by s (at c.args.out.now l.k) f l.state) l.invariant.shape in
    record { going = going-turn _ _ _ _ g (omega arith) (ap (λ p. p.0) e) (ap (λ p. p.1) e); shape = r.shape ∙ l.invariant.shape }
