-- The player's controls, what document 01 says of a move of pitch or bend, and check 10.
use Rattle.std.specs.Prelude.{Bool, cond, ℕ, ◌+◌, ◌^◌, leb, Float}
use Rattle.std.specs.Float.Ieee.{is_nan, of_bits}
use Rattle.std.specs.Float.{binary32}
use Rattle.float.specs.Order.{max_of, clamp_of}
use Rattle.float.specs.Single.{◌⊕◌, ◌⊖◌, ◌⊗◌, zero, one}
use Rattle.control.specs.declared.Controls.{Controls}

unfoldable pub fresh : Controls
fresh = record { position = 0; pitch = one; target = one; glide = one; bend = one }

-- in a sample the pitch goes by the part `glide` of the way to its target
abbrev pub glided : Float → Float → Float → Float
glided pitch target glide = pitch ⊕ (target ⊖ pitch) ⊗ glide

-- the controls of a sample, its pitch moved; and after it, the position one more
unfoldable pub moved : Controls → Controls
moved c = record { position = c.position; pitch = glided c.pitch c.target c.glide; target = c.target; glide = c.glide; bend = c.bend }

unfoldable pub risen : Controls → Controls
risen c = record { position = c.position + 1; pitch = c.pitch; target = c.target; glide = c.glide; bend = c.bend }

-- from the controls of a sample to those of the next
abbrev pub following : Controls → Controls
following c = moved (risen c)

-- what the sources read for the pitch: a product that is not stored
abbrev pub bent : Controls → Float
bent c = c.pitch ⊗ c.bend

-- a NaN counts as 1; else from 2 ^ -126, the smallest normal number, to 1
unfoldable pub glide_of : Float → Float
glide_of coefficient = cond (is_nan coefficient) one (clamp_of coefficient (of_bits binary32 0x0080_0000) one)

unfoldable pub pitch_moved : Controls → Float → Float → Controls
pitch_moved c scale coefficient = record { position = c.position; pitch = c.pitch; target = max_of scale zero; glide = glide_of coefficient; bend = c.bend }

unfoldable pub bend_moved : Controls → Float → Controls
bend_moved c bend = record { position = c.position; pitch = c.pitch; target = c.target; glide = c.glide; bend = bend }

-- whether a fill of this length has positions left: check 10 does not apply
unfoldable pub left_for : ℕ → ℕ → Bool
left_for position length = leb (position + length) (2 ^ 62)
