-- `sheet::kinds::Entry::numbered` meets its contract, by the law of its table. Assumes nothing.
use Rattle.std.proofs.Common.{arith, ap}
use Rattle.sheet.specs.Kinds.{Row}
use Rattle.sheet.specs.Table.{row-past}
use Rattle.sheet.proofs.Entries.{none, entry-is}
use Rattle.sheet.proofs.kinds.Entry.numbered.Goals as goal

pub returns-then-i-lt53 : goal.returns-then-i-lt53
returns-then-i-lt53 c = rw c.from-i.ensures (entry-is c.args.k (omega arith))

pub returns-else-i-lt53 : goal.returns-else-i-lt53
returns-else-i-lt53 c = none _ (ap (λ (r : Row). r.options) (row-past _ (omega arith)))
