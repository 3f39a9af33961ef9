-- What a row says of its record. Its parts lie in what all records need, so a caller that lends that much can cut them out.
use Rattle.std.specs.Prelude.{◌≡◌, List, ℕ, ◌+◌, ◌≤◌}
use Rattle.sheet.specs.Record.{count_of, kind}
use Rattle.sheet.specs.Numbers.{kind_number}
use Rattle.layout.specs.Built.{role, is_built, begin, after}
use Rattle.layout.specs.Needs.{cells_from, registers_from, scratch_from}
use Rattle.plan.specs.declared.Row.{Row}

pub record Rowed (s : List ℕ) (i : ℕ) (r : Row) : Type 0 where
  pub kind_is : kind_number r.kind ≡ kind s i
  pub built_is : r.built ≡ is_built (role s i)
  pub begin_is : r.begin ≡ begin s i
  pub after_is : r.after ≡ after s i
  pub cells_is : r.cells ≡ cells_from s i
  pub cells_end_is : r.cells_end ≡ cells_from s (i + 1)
  pub cells_rise : r.cells ≤ r.cells_end
  pub cells_within : r.cells_end ≤ cells_from s (count_of s)
  pub registers_is : r.registers ≡ registers_from s i
  pub registers_end_is : r.registers_end ≡ registers_from s (i + 1)
  pub registers_rise : r.registers ≤ r.registers_end
  pub registers_within : r.registers_end ≤ registers_from s (count_of s)
  pub scratch_is : r.scratch ≡ scratch_from s i
