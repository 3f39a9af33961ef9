-- The samples of the machine as a block of the voice, and a run of samples cut in two.
use Rattle.control.specs.declared.Controls.{Controls}
use Rattle.control.specs.Moves.{moved, risen}

-- ---- the controls a sample later
abbrev pub tick : Controls → Controls
tick c = risen (moved c)
