use Rattle.layout.specs.Tables.{first_entry}
use Rattle.offsets.proofs.cells_of.Goals as goal

pub chain_length-requires : goal.chain_length-requires
chain_length-requires c =
    let l = c.args.links.now in
    let h = l.listed in
    (h.passed, h.next_at, first_entry l.sheet.now l.count h.passed l.firsts.now h.first_at c.args.i c.requires)
