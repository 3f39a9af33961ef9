use Rattle.std.proofs.Common.{◌≡◌, length}
use Rattle.super_block.specs.Super as bank
use Rattle.super_block.proofs.voices.Given as goal

abbrev pub invariant-loop-k : goal.invariant-loop-k
invariant-loop-k l = ((l.sum, l.cells) ≡ bank.voices l.wave l.f l.srf l.n l.initial.cells l.k) × (length l.cells ≡ length l.initial.cells)
