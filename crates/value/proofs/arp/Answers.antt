use Rattle.std.proofs.Common.{ℕ, ◌<◌, length, mod-lt, arith}
use Rattle.std.specs.Prelude.{Float}
use Rattle.value.specs.Modulators.{arp_index}
use Rattle.value.proofs.arp.Goals as goal

inside : (rate srf : Float) (t n : ℕ) → 0 < n → arp_index rate srf t n < n
unfolding arp_index
inside rate srf t n h = mod-lt _ h

pub bounds-steps-i : goal.bounds-steps-i
bounds-steps-i c = let a = c.args in omega (arith, c.arp_index-i.ensures, inside a.rate a.srf a.t (length a.steps.now) (grind (arith, c.is_empty.ensures)))

pub offset_bounds-steps-i : goal.offset_bounds-steps-i
offset_bounds-steps-i c = let a = c.args in omega (arith, c.arp_index-i.ensures, inside a.rate a.srf a.t (length a.steps.now) (grind (arith, c.is_empty.ensures)))
