-- A valid state stays valid: there is enough of each list, the position is at most 2^62, and what each record owns is sound, before and after every call.
-- The laws up to the last part assume that the voice is valid and that each unit keeps its own part sound; the last part assumes nothing of an accepted sheet.
use Rattle.std.specs.Prelude.{Bool, ◌&&◌, length}
use mathlib.Core.List.{List}
use Prim.Native.Nat.{ℕ}
use Rattle.machine.specs.Machine.{State, room_ok, sound_ok}

-- ---- what is kept
-- checks 8 and 9
abbrev pub room_for : List ℕ → State → Bool
room_for s p = room_ok s (length p.cells) (length p.registers) (length p.scratch)

abbrev pub valid_ok : List ℕ → State → Bool
valid_ok s p = room_for s p && sound_ok s p.controls p.cells p.registers
