-- `chains::members` meets its contract. The invariant: what is counted so far, each one that may stand there, with what is left of the chain makes the whole. Assumes nothing.
use mathlib.Core.Bool.{true}
use lib.ListN.{length}
use Rattle.sheet.specs.Checks.{allows}
use Rattle.sheet.specs.Numbers.{numbers_of, chain_of}
use Rattle.sheet.specs.Links.{at}
use Rattle.sheet.specs.LinkLaws.{left, Walked}
use Rattle.chains.proofs.members.Given as goal

abbrev pub invariant-loop-j : goal.invariant-loop-j
invariant-loop-j l = Walked (allows (chain_of l.chain)) (at (numbers_of l.t.kinds.now)) (at l.t.first.now) (at l.t.next.now) (length l.t.first.now) (at l.t.first.now l.i) true l.count l.j

abbrev pub decreases-loop-j : goal.decreases-loop-j
decreases-loop-j l = left (length l.t.first.now) l.j
