-- What each kind owns when a voice is built, as the Rust starts it. Numbers that are not named are 0.
use Rattle.std.specs.Prelude.{cond, ◌&&◌, List, [], ◌∷◌, ◌++◌, ℕ, zero, suc, eqb, ltb, pos, replicate, Float}
use Rattle.std.specs.Float.{nan, binary32}
use Rattle.std.specs.Float.Ieee.{neg, of_bits, of_int}
use Rattle.float.specs.Single.{◌⊕◌, ◌⊖◌, ◌⊗◌, ◌⊘◌, zero as zero_f, one, two}
use Rattle.tree.specs.Block.{tab}
use Rattle.dsl.specs.Options.{drive_shape_of}
use Rattle.dsp.specs.Math.{power}
use Rattle.rng.specs.Random.{stepped, range_of, path_of as child_path, seed_of, rand_seed_of}
use Rattle.dsp.specs.Coefficients.{follower_of, modal_of}
use Rattle.dsp.specs.declared.Resonator.{Resonator}
use Rattle.drive.specs.Drive.{antiderivative_of}
use Rattle.sheet.specs.Record.{rate_of, path_of, option_of, bits_of, number_of, record_at, kind, first, seed_of as rand_seed}
use Rattle.sheet.specs.Tree.{records, spine}
use Rattle.layout.specs.Built.{linker, owner}
use Rattle.layout.specs.Needs.{voices_of, cells, registers}
use Rattle.unit.specs.Unit.{srf}

abbrev single : ℕ → Float
single n = of_int binary32 (pos n)

-- Super: voice k of n starts at the phase k / n, and is detuned from -cents to +cents over the voices
abbrev pub start_phase : ℕ → ℕ → Float
start_phase n k = single k ⊘ single n

unfoldable pub detune : ℕ → Float → ℕ → Float
detune n cents k = cond (eqb n 1) zero_f (neg cents ⊕ two ⊗ cents ⊗ (single k ⊘ (single n ⊖ one)))

unfoldable pub start_ratio : ℕ → Float → ℕ → Float
start_ratio n cents k = power two (detune n cents k ⊘ of_bits binary32 0x4496_0000)

abbrev pub super_start : ℕ → Float → List Float
super_start n cents = tab n (start_phase n) ++ tab n (start_ratio n cents)

-- a filter's scale is 1, and its last frequency NaN, so that the first sample works out the coefficients
abbrev pub filter_start : List Float
filter_start = one ∷ nan ∷ replicate 9 zero_f

-- Modal: each Mode record's resonator at rest
abbrev pub at_rest : Resonator → List Float
at_rest m = m.a1 ∷ m.a2 ∷ m.b0 ∷ zero_f ∷ zero_f ∷ []

abbrev pub mode_start : List ℕ → ℕ → List Float
mode_start s j = let x = number_of (record_at s j) in at_rest (modal_of (x 0) (x 1) (x 2) (rate_of s))

unfoldable pub modal_start : List ℕ → List ℕ → List Float
modal_start s [] = []
modal_start s (j ∷ js) = mode_start s j ++ modal_start s js

-- Drive's antiderivative at 0
abbrev pub drive_start : ℕ → List Float
drive_start option = zero_f ∷ antiderivative_of (drive_shape_of option) zero_f ∷ zero_f ∷ zero_f ∷ []

-- the follower's coefficients and the makeup of 10 ^ (dB / 20)
abbrev pub compress_start : (ℕ → Float) → Float → List Float
compress_start x srf = zero_f ∷ follower_of (x 2) srf ∷ follower_of (x 3) srf ∷ power (of_bits binary32 0x4120_0000) (x 4 ⊘ of_bits binary32 0x41a0_0000) ∷ []

-- Rand draws its first two numbers
abbrev pub rand_word : List ℕ → ℕ
rand_word r = rand_seed_of (rand_seed r) (bits_of r 0) (bits_of r 1) (bits_of r 2)

abbrev pub rand_start : List ℕ → List Float
rand_start r =
    let w = rand_word r in
    range_of w (number_of r 0) (number_of r 1) ∷ range_of (stepped w) (number_of r 0) (number_of r 1) ∷ zero_f ∷ []

-- 6 Super, 22 to 28 the filters, 31 Modal, 32 Drive, 35 Compress, 46 Rand; the others start with as many zeros as they need
unfoldable pub start_cells : List ℕ → ℕ → List Float
start_cells s i =
    let k = kind s i in
    let r = record_at s i in
    cond (eqb k 6) (super_start (voices_of r) (number_of r 1))
    (cond (ltb 21 k && ltb k 29) filter_start
    (cond (eqb k 31) (modal_start s (spine (records s (first s i))))
    (cond (eqb k 32) (drive_start (option_of r))
    (cond (eqb k 35) (compress_start (number_of r) (srf s))
    (cond (eqb k 46) (rand_start r)
    (replicate (cells s i) zero_f))))))

-- ---- generator words: by where a node stands in the tree
-- how many records stand before j in its chain; links climb, so j steps are enough
unfoldable pub place_by : List ℕ → ℕ → ℕ → ℕ
place_by s zero j = 0
place_by s (suc n) j = let i = linker s j in let before = place_by s n i in cond (eqb (first s i) j) 0 (suc before)

unfoldable pub place : List ℕ → ℕ → ℕ
place s j = place_by s j j

-- record 0 has the sheet's path; any other that of its owner and its place in the owner's chain
unfoldable pub path_by : List ℕ → ℕ → ℕ → ℕ
path_by s zero j = path_of s
path_by s (suc n) j = let up = path_by s n (owner s j) in cond (eqb j 0) (path_of s) (child_path up (place s j))

unfoldable pub path : List ℕ → ℕ → ℕ
path s j = path_by s j j

-- 9 Noise and 10 Dust by their path, 46 Rand after its two draws; ring places start at 0
unfoldable pub start_registers : List ℕ → ℕ → List ℕ
start_registers s i =
    let k = kind s i in
    cond (eqb k 9) (seed_of (path s i) ∷ [])
    (cond (eqb k 10) (seed_of (path s i) ∷ [])
    (cond (eqb k 46) (stepped (stepped (rand_word (record_at s i))) ∷ [])
    (replicate (registers s i) 0)))
