-- What a built record needs, by document 01's table, and where its parts begin: the needs of the built records below it, added up.
use Rattle.std.specs.Prelude.{cond, List, [], ◌∷◌, ℕ, zero, suc, ◌+◌, ◌*◌, min, max, length, eqb}
use Rattle.sheet.specs.Record.{rate_of, option_of, bits_of, number_of, record_at, kind, first}
use Rattle.sheet.specs.Tree.{records, spine}
use Rattle.sheet.specs.Checks.{sum}
use Rattle.lines.specs.Lines.{delay_line, chorus_line, comb_line, allpass_line}
use Rattle.layout.specs.Built.{role, is_built}

-- a row of the table: a kind and how much it needs; a kind without a row needs nothing
pub data Need : Type 0 where
  needs : ℕ → ℕ → Need

unfoldable pub need_of : ℕ → List Need → ℕ
need_of k [] = 0
need_of k (needs j n ∷ rest) = cond (eqb j k) n (need_of k rest)

-- Super's voices, clamped to 1 to 16
abbrev pub voices_of : List ℕ → ℕ
voices_of r = max 1 (min (bits_of r 0) 16)

-- Noise by its colour: white, pink, brown
abbrev pub noise_cells : ℕ → ℕ
noise_cells zero = 0
noise_cells (suc zero) = 7
noise_cells (suc (suc k)) = 1

-- Reverb: six combs, four allpasses, and a store for each comb
abbrev pub reverb_cells : ℕ → ℕ
reverb_cells rate = sum (λ k. comb_line k rate) 6 + sum (λ k. allpass_line k rate) 4 + 6

-- how many records stand in record i's chain
abbrev pub chain_length : List ℕ → ℕ → ℕ
chain_length s i = length (spine (records s (first s i)))

-- Sine, Square, Sawtooth, Triangle, Fm, Super, Noise, Dust; the seven filters; Delay, Reverb, Modal, Drive, Chorus, Compress; Rand
unfoldable pub cells_by : List ℕ → ℕ → ℕ
cells_by s i =
    let r = record_at s i in
    need_of (kind s i)
    (needs 1 1
    ∷ needs 2 1
    ∷ needs 3 1
    ∷ needs 4 2
    ∷ needs 5 2
    ∷ needs 6 (2 * voices_of r)
    ∷ needs 9 (noise_cells (option_of r))
    ∷ needs 10 1
    ∷ needs 22 11
    ∷ needs 23 11
    ∷ needs 24 11
    ∷ needs 25 11
    ∷ needs 26 11
    ∷ needs 27 11
    ∷ needs 28 11
    ∷ needs 29 (delay_line (number_of r 0) (rate_of s))
    ∷ needs 30 (reverb_cells (rate_of s))
    ∷ needs 31 (5 * chain_length s i)
    ∷ needs 32 4
    ∷ needs 34 (chorus_line (number_of r 1) (rate_of s))
    ∷ needs 35 4
    ∷ needs 46 3
    ∷ [])

-- a generator word for Noise, Dust and Rand; ring places for Delay, Reverb and Chorus
unfoldable pub registers_by : List ℕ → ℕ → ℕ
registers_by s i = need_of (kind s i) (needs 9 1 ∷ needs 10 1 ∷ needs 29 1 ∷ needs 30 10 ∷ needs 34 1 ∷ needs 46 1 ∷ [])

-- a block for Mix and Mul
unfoldable pub scratch_by : List ℕ → ℕ → ℕ
scratch_by s i = need_of (kind s i) (needs 11 256 ∷ needs 12 256 ∷ [])

-- of built records only
abbrev pub if_built : List ℕ → (List ℕ → ℕ → ℕ) → ℕ → ℕ
if_built s need i = cond (is_built (role s i)) (need s i) 0

abbrev pub cells : List ℕ → ℕ → ℕ
cells s i = if_built s cells_by i

abbrev pub registers : List ℕ → ℕ → ℕ
registers s i = if_built s registers_by i

abbrev pub scratch : List ℕ → ℕ → ℕ
scratch s i = if_built s scratch_by i

-- where record i's parts begin, and at N how much the sheet needs
abbrev pub cells_from : List ℕ → ℕ → ℕ
cells_from s i = sum (cells s) i

abbrev pub registers_from : List ℕ → ℕ → ℕ
registers_from s i = sum (registers s) i

abbrev pub scratch_from : List ℕ → ℕ → ℕ
scratch_from s i = sum (scratch s) i
