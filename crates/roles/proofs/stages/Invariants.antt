use Rattle.layout.specs.Built.{trailing}
use Rattle.layout.specs.Roles.{stage_from}
use Rattle.layout.specs.Tables.{flag, flags_of, From}
use Rattle.roles.proofs.stages.Given as goal

abbrev pub invariant-loop-j : goal.invariant-loop-j
invariant-loop-j l = From (λ k. flag (trailing l.links.sheet.now k)) l.j l.links.count (flags_of l.lasts) × From (stage_from l.links.sheet.now) l.j l.links.count l.froms
