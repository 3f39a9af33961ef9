use Rattle.layout.specs.Tables.{Owned}
use Rattle.roles.proofs.owners.Given as goal

abbrev pub invariant-loop-i : goal.invariant-loop-i
invariant-loop-i l = Owned l.links.sheet.now l.links.count l.i l.owned
