-- What the run is lent, by the tables of a sheet and the check of the room. No function asks for it since a plan holds the tables; it stands since it is said of any tables.
use Rattle.std.specs.Prelude.{◌≡◌, List, ℕ, ◌≤◌}
use Rattle.sheet.specs.Numbers.{numbers_of}
use Rattle.sheet.specs.Record.{count_of}
use Rattle.layout.specs.Needs.{scratch_from}
use Rattle.layout.specs.Tables.{roles_of}
use Rattle.plan.specs.Planned.{Planned}
use Rattle.tables.specs.declared.Tables.{Tables}
use Rattle.tables.specs.Tables.{Made}
use Rattle.machine.specs.Machine.{room_check}
use Rattle.machine.proofs.Laws.{room-enough, room-passed}
use Rattle.walk.specs.Walk.{Voiced, voiced}

pub set-of : {N M : ℕ} {s : List ℕ} {count : ℕ} {t : Tables N M} → Made s count t → (nc nr ns : ℕ) → room_check s nc nr ns ≡ 0
    → Voiced s × Planned s count (numbers_of t.kinds) t.nexts (roles_of t.acts) t.begins t.afters t.places t.words t.blocks × (scratch_from s (count_of s) ≤ ns)
set-of {s = s} m nc nr ns e = (voiced m.planned.passed, m.planned, (room-enough s nc nr ns (room-passed s nc nr ns e).1).scratch)
