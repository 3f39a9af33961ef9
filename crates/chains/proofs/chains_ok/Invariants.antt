-- Every chain of the records below i passed.
use Rattle.std.specs.Prelude.{◌≡◌, true}
use Rattle.sheet.specs.Checks.{all}
use Rattle.sheet.specs.Links.{chain_in}
use Rattle.sheet.specs.Numbers.{numbers_of}
use Rattle.chains.proofs.chains_ok.Given as goal

abbrev pub invariant-loop-i : goal.invariant-loop-i
invariant-loop-i l = all (chain_in (numbers_of l.t.kinds.now) l.t.first.now l.t.next.now) l.i ≡ true
