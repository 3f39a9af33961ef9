use Rattle.sheet.specs.Kinds.{lookup}
use Rattle.sheet.specs.Numbers.{proc_number}
use Rattle.unit.specs.Processors.{processor_unit}
use Rattle.proc_unit.specs.Runs.{gain-ran}
use Rattle.proc_unit.proofs.processor.Goals as goal

pub returns-in-Gain : goal.returns-in-Gain
unfolding processor_unit proc_number lookup
returns-in-Gain c = rw c.in-Gain.is (gain-ran c.args.c _ c.gain_block.ensures)
