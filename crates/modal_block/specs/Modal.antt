-- Modal for one sample, its modes a bank in the record's own cells, and as a step of a block.
use Rattle.std.specs.Prelude.{List, ℕ, ◌+◌, ◌*◌, set, Float}
use Rattle.float.specs.Single.{◌⊕◌}
use Rattle.float.specs.Single as single
use Rattle.block.specs.Bank.{units}
use Rattle.block.specs.Iterate.{at}
use Rattle.proc.specs.declared.Mode.{Mode}
use Rattle.proc.specs.Effects.{blend, mode_of}

-- n modes of five cells each: a1 a2 b0 y1 y2. Mode k, added to the sum, and the cells then.
abbrev pub mode_at : List Float → ℕ → Mode
mode_at cs k = record { a1 = at cs (5 * k); a2 = at cs (5 * k + 1); b0 = at cs (5 * k + 2); y1 = at cs (5 * k + 3); y2 = at cs (5 * k + 4) }

-- the cells with mode m in the place of mode k: only y1 and y2 ever change
unfoldable pub put_mode : List Float → ℕ → Mode → List Float
put_mode cs k m = set (set cs (5 * k + 3) m.y1) (5 * k + 4) m.y2

unfoldable pub mode_step : Float → Float × List Float → ℕ → Float × List Float
mode_step x (sum, cs) k = let o = mode_of (mode_at cs k) x in (sum ⊕ o.0, put_mode cs k o.1)

abbrev pub modes : Float → List Float → ℕ → Float × List Float
modes x cs = units (mode_step x) (single.zero, cs)

unfoldable pub modal_of : Float → ℕ → Float → List Float → Float × List Float
modal_of mix n x cs = let r = modes x cs n in (blend mix x r.0, r.1)

unfoldable pub modal_step : List Float → Float → ℕ → ℕ → List Float → Float × List Float
modal_step xs mix n k cs = modal_of mix n (at xs k) cs
