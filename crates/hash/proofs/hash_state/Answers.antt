use Rattle.std.proofs.Common.{◌≡◌, rules}
use Rattle.hash.specs.Hash.{hashed, same, state_of}
use Rattle.hash.proofs.hash_state.Goals as goal

pub returns : goal.returns
unfolding state_of hashed
returns c = let regs : c.hash_all.result ≡ hashed same c.hash_floats.result c.args.regs.now = c.hash_all.ensures same (λ w r h. search rules) in cc
