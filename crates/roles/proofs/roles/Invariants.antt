use Rattle.layout.specs.Built.{role, begin, after}
use Rattle.layout.specs.Tables.{role_code, roles_of, Below, Owned}
use Rattle.roles.proofs.roles.Given as goal

abbrev pub invariant-loop-i : goal.invariant-loop-i
invariant-loop-i l =
    let s = l.links.sheet.now in
    Owned s l.links.count l.i l.owned × Below (λ k. role_code (role s k)) l.i (roles_of l.acts) × Below (begin s) l.i l.begins × Below (after s) l.i l.afters
