-- `fields::links_ok` meets its contract. Assumes nothing.
use Rattle.sheet.specs.Links.{links_at}
use Rattle.fields.proofs.links_ok.Goals as goal

pub returns : goal.returns
unfolding links_at
returns c = rw (c.link_ok.ensures, c.link_ok-2.ensures)
