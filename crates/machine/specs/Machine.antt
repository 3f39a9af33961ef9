-- The sample machine of document 01: it knows no blocks. It keeps the sheet, and controls, cells, registers and scratch of its own; it is fed calls alone.
use Rattle.std.specs.Prelude.{Bool, cond, ◌&&◌, List, [], ◌∷◌, ◌++◌, ℕ, zero, suc, ◌+◌, ◌^◌, eqb, leb, length, drop, set, replicate, Float}
use Rattle.std.specs.Float.{nan}
use Rattle.tree.specs.Comm.{M, ret, bind}
use Rattle.control.specs.declared.Controls.{Controls}
use Rattle.control.specs.Moves.{moved, risen, pitch_moved, bend_moved, left_for}
use Rattle.sheet.specs.Record.{count_of, kind}
use Rattle.sheet.specs.Checks.{check, lowest, check_of}
use Rattle.layout.specs.Built.{role, is_built}
use Rattle.layout.specs.Needs.{cells_from, registers_from, scratch_from}
use Rattle.unit.specs.Own.{silence}
use Rattle.unit.specs.Voice.{root_sample}
use Rattle.unit.specs.State.{rings_ok}

pub record State : Type 0 where
  pub controls : Controls
  pub cells : List Float
  pub registers : List ℕ
  pub scratch : List Float

abbrev pub state : Controls → List Float → List ℕ → List Float → State
state c cs rs zs = record { controls = c; cells = cs; registers = rs; scratch = zs }

-- ---- the checks
-- 8: what is lent is as long as the sheet needs
abbrev pub room_ok : List ℕ → ℕ → ℕ → ℕ → Bool
room_ok s nc nr ns = leb (cells_from s (count_of s)) nc && leb (registers_from s (count_of s)) nr && leb (scratch_from s (count_of s)) ns

-- 9: the position, the ring places and the Rand phases
abbrev pub sound_ok : List ℕ → Controls → List Float → List ℕ → Bool
sound_ok s c cs rs = leb c.position (2 ^ 62) && rings_ok s (cs, rs)

-- 1 to 7, then 8, 9 and 10: the lowest that applies, and 0 where none does
unfoldable pub room_check : List ℕ → ℕ → ℕ → ℕ → ℕ
room_check s nc nr ns = cond (eqb (check_of s) 0) (lowest (check 8 (room_ok s nc nr ns) ∷ [])) (check_of s)

unfoldable pub fill_check : List ℕ → ℕ → State → ℕ
fill_check s n p =
    let low = room_check s (length p.cells) (length p.registers) (length p.scratch) in
    cond (eqb low 0) (lowest (check 9 (sound_ok s p.controls p.cells p.registers) ∷ check 10 (left_for p.controls.position n) ∷ [])) low

-- ---- a sample: the pitch moves, the root's sample is worked out for the position and the new pitch, and the position rises
unfoldable pub sample : List ℕ → M State Float
sample s p =
    let c = moved p.controls in
    let r = root_sample s c (p.cells, p.registers) in
    (r.0, state (risen c) r.1.0 r.1.1 p.scratch)

unfoldable pub samples : List ℕ → ℕ → M State (List Float)
samples s zero = ret []
samples s (suc n) = bind (sample s) (λ y. bind (samples s n) (λ ys. ret (y ∷ ys)))

-- ---- the calls: each answers a number and makes samples
abbrev pub Answered : Type 0
Answered = ℕ × List Float

-- the needed scratch, zeroed after a fill of length above 0
abbrev pub cleared : List ℕ → List Float → List Float
cleared s zs = let n = scratch_from s (count_of s) in replicate n silence ++ drop n zs

abbrev pub rested : List ℕ → ℕ → State → State
rested s n p = state p.controls p.cells p.registers (cond (eqb n 0) p.scratch (cleared s p.scratch))

unfoldable pub fill_of : List ℕ → ℕ → M State Answered
fill_of s n p =
    let low = fill_check s n p in
    let r = samples s n p in
    cond (eqb low 0) ((0, r.0), rested s n r.1) ((low, []), p)

-- every built filter gets the scale, and NaN for its last frequency; kinds 22 to 28
abbrev pub is_filter : ℕ → Bool
is_filter k = leb 22 k && leb k 28

unfoldable pub scaled : List ℕ → Float → ℕ → List Float → List Float
scaled s x zero cs = cs
scaled s x (suc i) cs =
    let ds = scaled s x i cs in
    cond (is_built (role s i) && is_filter (kind s i)) (set (set ds (cells_from s i) x) (cells_from s i + 1) nan) ds

unfoldable pub cutoff_of : List ℕ → Float → M State Answered
cutoff_of s x p =
    let low = room_check s (length p.cells) (length p.registers) (length p.scratch) in
    cond (eqb low 0) ((0, []), state p.controls (scaled s x (count_of s) p.cells) p.registers p.scratch) ((low, []), p)

abbrev pub controlled : (Controls → Controls) → M State Answered
controlled f p = ((0, []), state (f p.controls) p.cells p.registers p.scratch)

pub data Call : Type 0 where
  fill : ℕ → Call
  pitch : Float → Float → Call
  bend : Float → Call
  cutoff : Float → Call

unfoldable pub call : List ℕ → Call → M State Answered
call s (fill n) = fill_of s n
call s (pitch scale coefficient) = controlled (λ c. pitch_moved c scale coefficient)
call s (bend x) = controlled (λ c. bend_moved c x)
call s (cutoff x) = cutoff_of s x

-- THE MACHINE, fed a list of calls: the answers, the samples of the accepted fills in order, and what is left
unfoldable pub machine : List ℕ → List Call → M State (List ℕ × List Float)
machine s [] = ret ([], [])
machine s (k ∷ ks) = bind (call s k) (λ a. bind (machine s ks) (λ b. ret (a.0 ∷ b.0, a.1 ++ b.1)))
