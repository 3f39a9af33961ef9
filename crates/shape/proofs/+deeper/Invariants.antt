-- `shape::deeper` meets its contract. The measure is what is left of the records above the start, 0 where the chain ends. The invariant: nodes nest over the room from the start on where they do from j on. Assumes nothing.
use Rattle.std.proofs.Common.{◌≡◌, ◌≤◌, ◌<◌, ltb, length}
use Rattle.sheet.specs.Links.{depth_in}
use Rattle.sheet.specs.Numbers.{numbers_of}
use Rattle.sheet.specs.LinkLaws.{left}
use Rattle.shape.proofs.+deeper.Given as goal

abbrev pub decreases-deeper : goal.decreases-deeper
decreases-deeper l = left (length l.t.now.first.now) l.start

abbrev pub invariant-loop-j : goal.invariant-loop-j
invariant-loop-j l =
    (l.j < length l.t.first.now) × (left (length l.t.first.now) l.j ≤ left (length l.t.first.now) l.start)
    × (ltb l.room (depth_in (numbers_of l.t.kinds.now) l.t.first.now l.t.next.now l.start) ≡ ltb l.room (depth_in (numbers_of l.t.kinds.now) l.t.first.now l.t.next.now l.j))

abbrev pub decreases-loop-j : goal.decreases-loop-j
decreases-loop-j l = left (length l.t.first.now) l.j
