use Rattle.std.proofs.Common.{ℕ, ◌≡◌, ◌<◌, length, Float}
use Rattle.std.specs.Float.{nan}
use Rattle.block.specs.Iterate.{at}
use Rattle.block.specs.Loop.{Going}
use Rattle.block.proofs.run_block.Given as goal

abbrev pub invariant-loop-k : goal.invariant-loop-k
invariant-loop-k g l = (f : ℕ → _ → Float × _) → ((k : ℕ) (s : _) (r : Float × _) → k < length l.initial.out → goal.F-post g l.step k s (at l.initial.out k) r → r ≡ f k s) → Going nan f l.fn.first l.initial.out l.k l.out l.state
