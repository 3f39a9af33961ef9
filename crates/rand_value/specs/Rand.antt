-- Rand for one sample.
use Rattle.std.specs.Prelude.{Bool, true, false, ℕ, zero, suc, Float}
use Rattle.std.specs.Float.{binary32}
use Rattle.std.specs.Float.Ieee.{le, of_bits}
use Rattle.float.specs.Order.{max_of, min_of}
use Rattle.float.specs.Single.{◌⊕◌, ◌⊖◌, ◌⊗◌, ◌⊘◌, one, two, three}
use Rattle.rng.specs.Random.{stepped, range_of}
use Rattle.rand_value.specs.declared.Rand.{Rand}

-- Rand: a walk between numbers drawn one after another, smoothed by 3 p² - 2 p³ in each segment. The increment is how many segments a sample makes, at most 64.
unfoldable pub rand_increment : Float → Float → Float
rand_increment rate srf = min_of (max_of rate (of_bits binary32 0x38d1_b717) ⊘ srf) (of_bits binary32 0x4280_0000)

unfoldable pub rand_out : Rand → Float
rand_out s =
    let p = s.phase in
    s.prev ⊕ (s.next ⊖ s.prev) ⊗ (p ⊗ p ⊗ (three ⊖ two ⊗ p))

-- one segment is done: the next number is drawn
unfoldable pub rand_turn : Float → Float → Rand → Rand
rand_turn from to s = record { rng = record { state = stepped s.rng.state }; prev = s.next; next = range_of s.rng.state from to; phase = s.phase ⊖ one }

-- while the phase is 1 or more, n times at most; the test is an argument. An increment of at most 64 on a phase below 1 takes at most 65, so the bound cuts nothing off (`catch-ends`).
unfoldable pub catch_up : ℕ → Bool → Float → Float → Rand → Rand
catch_up zero more from to s = s
catch_up (suc n) false from to s = s
catch_up (suc n) true from to s = let r = rand_turn from to s in catch_up n (le one r.phase) from to r

unfoldable pub rand_next : Float → Float → Float → Rand → Rand
rand_next inc from to s =
    let r : Rand = record s { phase = s.phase ⊕ inc } in
    catch_up 65 (le one r.phase) from to r
