-- From a kernel's block to the block of the unit, for the sources that read the pitch.
use Rattle.std.specs.Prelude.{◌≡◌, true, List, ◌∷◌, map, ℕ, zero, suc, ltb, length, Float}
use Rattle.std.proofs.Common.{refl, sym, ap, ◌∙◌}
use native.Mathlib.Omega.{arith}
use borrow.Author.Tests.{ne_eqb}
use Rattle.dsl.specs.declared.NoiseColor.{NoiseColor}
use Rattle.dsl.specs.declared.NoiseColor.TheVariants as color
use Rattle.dsl.specs.Options.{noise_color_of}
use Rattle.layout.specs.Needs.{noise_cells}
use Rattle.block.specs.Iterate.{at, given, after}
use Rattle.control.specs.declared.Controls.{Controls}
use Rattle.control.specs.Moves.{bent}
use Rattle.source.specs.declared.Frequencies.{Frequencies}
use Rattle.sheet.specs.Record.{length_of, record_at}
use Rattle.sheet.specs.Numbers.{src_number}
use Rattle.sheet.specs.declared.kinds.Src.{Src}
use Rattle.sheet.specs.declared.kinds.Src.TheVariants as S
use Rattle.unit.specs.Own.{Own, Ugen}
use Rattle.unit.specs.Sources.{source_unit}
use Rattle.unit.specs.Unit.{srf, kind_unit}
use Rattle.unit.specs.Block.{moment, Ran, Lent, Pitched, ran-part}

-- the part of a block's contract that an oscillator uses: its frequencies w, the buffers of its other values, and no registers
abbrev pub RanPitched : Ugen → Frequencies → List (List Float) → List Float → List Float → List Float → List Float → Type 0
RanPitched f w bufs xs cs ys ds = (c : Controls) (rs : List ℕ) → Pitched c w.pitch.now (length xs) → Ran f c (w.values.now ∷ bufs) xs cs rs ys ds rs

-- a unit whose cells are φ of a state, by a kernel h of its values, the pitch and that state
pub osc-ran : {S : Type 0} (φ : S → List Float) (h : List Float → Float → S → Float × S) (f : Ugen) (c : Controls) (w : Frequencies) (bufs : List (List Float))
    {xs cs : List Float} {rs : List ℕ} {ys ds : List Float} (s : S)
    → ((c : Controls) (vs : List Float) (x : Float) (u : S) → f c vs x (φ u, rs) ≡ ((h vs (bent c) u).0, (φ (h vs (bent c) u).1, rs)))
    → Pitched c w.pitch.now (length xs) → cs ≡ φ s
    → (ys ≡ given (λ k. h (map (λ b. at b k) (w.values.now ∷ bufs)) (at w.pitch.now k)) s (length xs)) × (ds ≡ φ (after (λ k. h (map (λ b. at b k) (w.values.now ∷ bufs)) (at w.pitch.now k)) s (length xs)))
    → Ran f c (w.values.now ∷ bufs) xs cs rs ys ds rs
osc-ran {S} φ h f c w bufs {xs} {cs} {rs} s e p q y =
    let all = w.values.now ∷ bufs in
    ran-part (λ (u : S). (φ u, rs)) (λ k. h (map (λ b. at b k) all) (at w.pitch.now k)) f c all s
    (λ k l u. e (moment c k) (map (λ b. at b k) all) (at xs k) u ∙ ap {B = Float × Own} (λ v. let r = h (map (λ b. at b k) all) v u in (r.0, (φ r.1, rs))) (sym (p.at_all k l)))
    (ap {B = Own} (λ l. (l, rs)) q) y.0 (ap {B = Own} (λ l. (l, rs)) y.1)

-- the cells of a colour
abbrev pub color_cells : NoiseColor → ℕ
color_cells color.White = 0
color_cells color.Pink = 7
color_cells color.Brown = 1

pub color-cells : (n : ℕ) → noise_cells n ≡ color_cells (noise_color_of n)
unfolding noise_color_of
color-cells zero = refl
color-cells (suc zero) = refl
color-cells (suc (suc n)) = rw (ne_eqb (suc (suc n)) 0 (λ e. omega arith), ne_eqb (suc (suc n)) 1 (λ e. omega arith))

below : (src : Src) → ltb (src_number src) 21 ≡ true
unfolding src_number
below S.Sine = refl
below S.Square = refl
below S.Sawtooth = refl
below S.Triangle = refl
below S.Fm = refl
below S.Super = refl
below S.Impact = refl
below S.Env = refl
below S.Noise = refl
below S.Dust = refl

pub source-is : {s : List ℕ} {i nc nr : ℕ} (src : Src) → Lent s i (src_number src) nc nr → kind_unit s i ≡ source_unit (record_at s i) (srf s) (length_of s) (src_number src)
unfolding kind_unit
source-is src l = rw (← l.kind_is, below src)
