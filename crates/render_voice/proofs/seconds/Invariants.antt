-- The loop keeps what the text asks for: n is the number so far.
use Rattle.std.proofs.Common.{◌≡◌, ◌≤◌, drop}
use Rattle.render_voice.specs.Seconds.{seconds_from, seconds_of}
use Rattle.render_voice.proofs.seconds.Given as goal

abbrev pub invariant-loop-b : goal.invariant-loop-b
invariant-loop-b l = (l.n ≤ 3600) × (seconds_from l.n (drop l.b-index l.text) ≡ seconds_of l.text)
