-- The envelope: attack a, decay d, sustain level s, release r and a punch at the start, at t seconds, with the release from relStart on.
use Rattle.std.specs.Prelude.{cond, ◌&&◌, Float}
use Rattle.std.specs.Float.Ieee.{lt}
use Rattle.dsl.specs.declared.Adsr.{Adsr}
use Rattle.float.specs.Order.{clamp_of}
use Rattle.float.specs.Single.{◌⊕◌, ◌⊖◌, ◌⊗◌, ◌⊘◌, zero, one}

-- how far x is through a stretch of the length w: all the way where w is not above 0
abbrev pub through : Float → Float → Float
through x w = cond (lt zero w) (x ⊘ w) one

-- up to 1 over a, down to s over d, s, and down to 0 over r
unfoldable pub level : Adsr → Float → Float → Float
level e t relStart =
    cond (lt t e.a) (through t e.a)
    (cond (lt t (e.a ⊕ e.d)) (one ⊖ (one ⊖ e.s) ⊗ through (t ⊖ e.a) e.d)
    (cond (lt t relStart) e.s
    (cond (lt zero e.r) (e.s ⊗ (one ⊖ clamp_of ((t ⊖ relStart) ⊘ e.r) zero one)) zero)))

-- the punch raises the attack and the decay, the more the nearer to the start
unfoldable pub adsr_of : Adsr → Float → Float → Float
unfolding level
adsr_of e t relStart =
    let v = level e t relStart in
    let w = e.a ⊕ e.d in
    cond (lt zero e.punch && lt zero w && lt t w) (v ⊗ (one ⊕ e.punch ⊗ (one ⊖ t ⊘ w))) v
