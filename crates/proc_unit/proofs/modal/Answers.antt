use Rattle.proc_unit.specs.Runs.{modal-ran}
use Rattle.proc_unit.proofs.modal.Goals as goal

pub returns : goal.returns
returns c =
    let b = c.modal_block in
    λ ctl rs. rw (← c.number.ensures, ← c.clamp-mix.ensures)
    (modal-ran ctl _ _ b.ensures.0 b.ensures.1)
