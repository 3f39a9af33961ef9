-- The one-sample kernels that use a line as steps of a block: xs are the samples that come in, the state is the line and the place in it.
use Rattle.std.specs.Prelude.{List, ℕ, ◌+◌, set, Float}
use Rattle.block.specs.Iterate.{at}
use Rattle.line_step.specs.declared.ChorusRead.{ChorusRead}
use Rattle.line_step.specs.Line.{delay_of, next_place, chorus_place, chorus_read, chorus_of}

unfoldable pub delay_step : List Float → Float → ℕ → ℕ → List Float × ℕ → Float × (List Float × ℕ)
delay_step xs feedback len k s =
    let y = delay_of feedback (at xs k) (at s.0 s.1) in
    (y, (set s.0 s.1 y, next_place s.1 len))

-- the input is written before the line is read, at the places of r
abbrev pub chorus_at : Float → ℕ → ChorusRead → Float → List Float × ℕ → Float × (List Float × ℕ)
chorus_at mix len r x s =
    let line = set s.0 s.1 x in
    (chorus_of mix r.frac x (at line r.i0) (at line r.i1), (line, next_place s.1 len))

unfoldable pub chorus_step : List Float → Float → Float → Float → Float → Float → ℕ → ℕ → ℕ → List Float × ℕ → Float × (List Float × ℕ)
chorus_step xs base swing rate srf mix len t k s = chorus_at mix len (chorus_read base swing rate srf len s.1 (t + k)) (at xs k) s

-- from the sines of the LFO
unfoldable pub chorus_by_step : List Float → List Float → Float → Float → Float → ℕ → ℕ → List Float × ℕ → Float × (List Float × ℕ)
chorus_by_step xs sines base swing mix len k s = chorus_at mix len (chorus_place base swing (at sines k) len s.1) (at xs k) s
