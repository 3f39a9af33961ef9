use Rattle.std.proofs.Common.{rules}
use Rattle.console.proofs.Padding.{hex-padded}
use Rattle.console.proofs.say_hex.Goals as goal

pub returns : goal.returns
returns g c = search (rules, hex-padded c.args.digits c.args.n)
