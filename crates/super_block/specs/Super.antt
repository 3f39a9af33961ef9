-- Super for one sample, its voices a bank in the record's own cells, and as a step of a block.
use Rattle.std.specs.Prelude.{List, ℕ, ◌+◌, set, pos, Float}
use Rattle.std.specs.Float.{binary32}
use Rattle.std.specs.Float.Ieee.{of_int}
use Rattle.float.specs.Single.{◌⊕◌, ◌⊗◌, ◌⊘◌, one}
use Rattle.float.specs.Single as single
use Rattle.block.specs.Bank.{units}
use Rattle.block.specs.Iterate.{at}
use Rattle.dsl.specs.declared.SuperWave.{SuperWave}
use Rattle.source.specs.Oscillators.{hertz, super_voice}
use Rattle.source.specs.declared.Frequencies.{Frequencies}

-- n voices; the cells are n phases, then n ratios. Voice k, added to the sum, and the cells then.
unfoldable pub voice_at : SuperWave → Float → Float → ℕ → Float × List Float → ℕ → Float × List Float
voice_at wave f srf n (sum, cs) k = let v = super_voice wave f (at cs (n + k)) srf (at cs k) in (sum ⊕ v.0, set cs k v.1)

abbrev pub voices : SuperWave → Float → Float → ℕ → List Float → ℕ → Float × List Float
voices wave f srf n cs = units (voice_at wave f srf n) (single.zero, cs)

unfoldable pub super_of : SuperWave → ℕ → Float → Float → Float → List Float → Float × List Float
super_of wave n freq pitch srf cs =
    let r = voices wave (hertz freq pitch) srf n cs n in
    (r.0 ⊗ (one ⊘ of_int binary32 (pos n)), r.1)

unfoldable pub super_step : SuperWave → ℕ → Frequencies → ℕ → List Float → Float × List Float
super_step wave n w k cs = super_of wave n (at w.values.now k) (at w.pitch.now k) w.srf cs
