-- The kinds of records, as document 01 lists them: how many options a kind has (0 up to one less), how many of its eight numbers it uses, and what its chain holds.
use Rattle.std.specs.Prelude.{Bool, cond, ◌&&◌, ◌||◌, List, [], ◌∷◌, ℕ, leb, eqb}

pub data Chain : Type 0 where
  -- no record; this many values; nodes, modes or steps in any number
  empty : Chain
  values : ℕ → Chain
  nodes : Chain
  modes : Chain
  steps : Chain

pub record Row : Type 0 where
  pub number : ℕ
  pub options : ℕ
  pub numbers : ℕ
  pub chain : Chain

abbrev row : ℕ → ℕ → ℕ → Chain → Row
row k o n c = record { number = k; options = o; numbers = n; chain = c }

abbrev pub rows : List Row
rows =
    -- Sine, Square, Sawtooth, Triangle, Fm (ratio), Super (wave; voices, detune), Impact (hardness, velocity), Env (a, d, s, r, punch), Noise (colour), Dust (density, decay)
    row 1 1 0 (values 1)
    ∷ row 2 1 0 (values 2)
    ∷ row 3 1 0 (values 1)
    ∷ row 4 1 0 (values 1)
    ∷ row 5 1 1 (values 2)
    ∷ row 6 2 2 (values 1)
    ∷ row 7 1 2 empty
    ∷ row 8 1 5 empty
    ∷ row 9 3 0 empty
    ∷ row 10 1 2 empty
    -- Mix, Mul, Chain
    ∷ row 11 1 0 nodes
    ∷ row 12 1 0 nodes
    ∷ row 13 1 0 nodes
    -- Gain; Lowpass, Highpass, Bandpass, Notch (q), Peak (q, gain), Lowshelf, Highshelf (gain)
    ∷ row 21 1 0 (values 1)
    ∷ row 22 1 1 (values 1)
    ∷ row 23 1 1 (values 1)
    ∷ row 24 1 1 (values 1)
    ∷ row 25 1 1 (values 1)
    ∷ row 26 1 2 (values 1)
    ∷ row 27 1 1 (values 1)
    ∷ row 28 1 1 (values 1)
    -- Delay (secs, feedback), Reverb (room, mix), Modal (mix), Drive (shape, anti-aliased or not), Tremolo (rate, depth), Chorus (rate, depth, mix), Compress (threshold, ratio, attack, release, makeup)
    ∷ row 29 1 2 empty
    ∷ row 30 1 2 empty
    ∷ row 31 1 1 modes
    ∷ row 32 6 0 (values 1)
    ∷ row 33 1 2 empty
    ∷ row 34 1 3 empty
    ∷ row 35 1 5 empty
    -- Const, Slide (curve; from, to, secs), Lfo (shape; rate, depth, center), Arp (rate), EnvMod (a, d, s, r, punch, from, to), Rand (from, to, rate, the seed's two)
    ∷ row 41 1 1 empty
    ∷ row 42 2 3 empty
    ∷ row 43 4 3 empty
    ∷ row 44 1 1 steps
    ∷ row 45 1 7 empty
    ∷ row 46 1 5 empty
    -- Mode (freq, decay, gain), Step
    ∷ row 51 1 3 empty
    ∷ row 52 1 1 empty
    ∷ []

-- the row of a kind; a kind with no row has no option
unfoldable pub lookup : List Row → ℕ → Row
lookup [] k = row k 0 0 empty
lookup (r ∷ rs) k = cond (eqb r.number k) r (lookup rs k)

abbrev pub row_of : ℕ → Row
row_of k = lookup rows k

-- sources and combinators 1 to 13, processors 21 to 35, values 41 to 46
abbrev pub is_processor : ℕ → Bool
is_processor k = leb 21 k && leb k 35

abbrev pub is_node : ℕ → Bool
is_node k = (leb 1 k && leb k 13) || is_processor k

abbrev pub is_value : ℕ → Bool
is_value k = leb 41 k && leb k 46

-- Mix and Mul
abbrev pub is_fold : ℕ → Bool
is_fold k = eqb k 11 || eqb k 12
