-- `roles::own` meets its contract. Links lead to records; no other record has a link from i. Assumes nothing.
use Rattle.layout.proofs.Tables.{own-turn}
use Rattle.roles.proofs.own.Goals as goal

pub returns : goal.returns
returns c = own-turn c.args.links.now.listed c.args.i c.args.o c.args.owned.now c.requires.0 c.requires.2 c.requires.1 c.requires.3
