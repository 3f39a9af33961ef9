-- What is hashed so far is the part before x.
use Rattle.std.proofs.Common.{◌≡◌, ℕ, take}
use Rattle.hash.specs.Hash.{hashed}
use Rattle.hash.proofs.hash_all.Given as goal

abbrev pub invariant-loop-x : goal.invariant-loop-x
invariant-loop-x g l = (w : _ → ℕ) → ((x : _) (r : ℕ) → goal.F-post g l.word x r → r ≡ w x) → l.h ≡ hashed w l.first (take l.x-index l.xs)
