-- Below i the tables hold the records' kinds, where the number is a kind's, and links, and `whole` and `linked` say whether every record below i passed, and every link.
use Rattle.sheet.specs.Decoding.{Read}
use Rattle.sheet.specs.Numbers.{numbers_of}
use Rattle.records.proofs.decode.Given as goal

abbrev pub invariant-loop-i : goal.invariant-loop-i
invariant-loop-i l = Read l.sheet l.initial.first l.initial.next (numbers_of l.kinds) l.first l.next l.whole l.linked l.i
