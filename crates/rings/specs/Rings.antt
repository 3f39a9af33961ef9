-- Check 9 as the code makes it: a place of a Reverb, a test of each index of a range, and a record on its part.
use Rattle.std.specs.Prelude.{◌≡◌, refl, Bool, true, false, not, List, ℕ, ◌<◌, ltb, length, get_or, Float}
use Rattle.std.proofs.Common.{sym, ap, ap₂, ◌∙◌, arith}
use Rattle.sheet.specs.Checks.{all}
use Rattle.sheet.specs.Laws.{all_of, all-fails}
use Rattle.std.specs.Bool.{MatchBool}
use Rattle.std.specs.List.{AllWithin, HoldsAt, range_with_len}
use Rattle.std.proofs.lemmas.List.FromFn.{length-range_with_len, get_or-range_with_len}
use Rattle.block.specs.Iterate.{word}
use Rattle.layout.specs.Built.{role}
use Rattle.layout.specs.declared.Role.TheVariants.{Built}
use Rattle.layout.specs.Needs.{cells, registers, cells_from, registers_from}
use Rattle.tree.specs.Flat.{seg}
use Rattle.unit.specs.State.{own_ok, record_ok}

-- place k is below its line's length
abbrev pub place_test : List ℕ → List ℕ → ℕ → Bool
place_test lens rs k = ltb (word rs k) (word lens k)

-- ---- one test that fails
pub not-true : (b : Bool) → not b ≡ true → b ≡ false
not-true false e = refl
not-true true e = sym e

pub not-false : (b : Bool) → not b ≡ false → b ≡ true
not-false true e = refl
not-false false e = sym e

-- a built record, on its part of the cells and the registers
pub record-checked : (s : List ℕ) (i : ℕ) (cs xs : List Float) (rs ws : List ℕ) (r : Bool) → role s i ≡ Built
    → xs ≡ seg (cells_from s i) (cells s i) cs → ws ≡ seg (registers_from s i) (registers s i) rs → r ≡ own_ok s i (xs, ws) → r ≡ record_ok s (cs, rs) i
record-checked s i cs xs rs ws r b ex ew e = e ∙ ap₂ (λ xs ws. own_ok s i (xs, ws)) ex ew ∙ rw b

-- ---- `all` over a range, by a test of each index
index : (n i : ℕ) → i < n → get_or (range_with_len 0 n) i 0 ≡ i
index n i h = get_or-range_with_len 0 n i 0 h ∙ omega arith

pub all-ranged : (p : ℕ → Bool) (n : ℕ) (r : Bool)
    → MatchBool r (AllWithin (λ k. p k ≡ true) (range_with_len 0 n) 0 (length (range_with_len 0 n))) ((k : ℕ) × (k < length (range_with_len 0 n)) × HoldsAt (λ k. p k ≡ false) (range_with_len 0 n) k)
    → r ≡ all p n
all-ranged p n true w = sym (all_of p n (λ i h. sym (ap p (index n i h)) ∙ w i 0 (omega arith) (rw length-range_with_len h)))
all-ranged p n false w = let h = rw length-range_with_len at w.1 in sym (all-fails p n w.0 h (sym (ap p (index n w.0 h)) ∙ w.2 0))
