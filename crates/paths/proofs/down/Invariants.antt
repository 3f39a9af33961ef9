use Rattle.std.specs.Prelude.{◌≤◌, length}
use Rattle.unit.specs.Start.{path}
use Rattle.layout.specs.Tables.{Below}
use Rattle.paths.proofs.down.Given as goal

abbrev pub invariant-loop-j : goal.invariant-loop-j
invariant-loop-j l = (l.links.count ≤ length l.to) × Below (path l.links.sheet.now) l.j l.to
