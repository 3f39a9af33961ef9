use Rattle.std.proofs.Common.{arith, rules}
use Rattle.sheet.specs.LinkLaws.{zeros}
use Rattle.shape.proofs.once_with.Goals as goal

pub once_in-requires : goal.once_in-requires
once_in-requires g c =
    let b = c.requires.in_bounds in
    record { links_in = c.requires.links_in; in_bounds = (b.0, omega arith); first_in_bounds = (search rules, zeros g.row.N) }
