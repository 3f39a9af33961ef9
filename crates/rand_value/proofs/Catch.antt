-- A turn of the catch-up, for the loop that makes it.
use Rattle.std.proofs.Common.{◌≡◌, refl, ap, ℕ, zero, suc, ◌-◌, ◌+◌, ◌<◌, true, false, arith}
use Rattle.std.specs.Prelude.{Float}
use Rattle.std.specs.Float.Ieee.{le}
use Rattle.float.specs.Single.{one}
use Rattle.rand_value.specs.declared.Rand.{Rand}
use Rattle.rand_value.specs.Rand.{rand_turn, catch_up}

-- the catch-up of r, with n turns left
abbrev pub rest : ℕ → Float → Float → Rand → Rand
rest n from to r = catch_up n (le one r.phase) from to r

pub turned : (k : ℕ) (from to : Float) (r : Rand) → k < 65 → le one r.phase ≡ true → rest (65 - k) from to r ≡ rest (65 - (k + 1)) from to (rand_turn from to r)
unfolding catch_up
turned k from to r h e =
    let more : 65 - k ≡ suc (65 - (k + 1)) = omega arith in
    rw (ap (λ n. catch_up n (le one r.phase) from to r) more, e)

pub caught : (n : ℕ) (from to : Float) (r : Rand) → le one r.phase ≡ false → rest n from to r ≡ r
unfolding catch_up
caught zero from to r e = refl
caught (suc n) from to r e = rw e
