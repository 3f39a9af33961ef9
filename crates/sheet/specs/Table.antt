-- What the rows say of a number that is no kind's, and of the numbers past them.
use Rattle.std.specs.Prelude.{◌≡◌, refl, Bool, true, ◌&&◌, List, [], ◌∷◌, map, drop, length, get_or, ◌≢◌, ℕ, ◌≤◌, leb}
use Rattle.std.proofs.Common.{ap, arith, leb-true, ne_eqb}
use Rattle.std.proofs.Math.Decide.{ℕ_discrete}
use Rattle.sheet.specs.Kinds.{empty, Row, rows, lookup, row_of}
use Rattle.sheet.specs.Numbers.{kind_number, src_number, fold_number, biquad_number, proc_number, val_number}
use Rattle.sheet.specs.declared.kinds.Src.TheVariants as S
use Rattle.sheet.specs.declared.kinds.Fold.TheVariants as F
use Rattle.sheet.specs.declared.kinds.Biquad.TheVariants as B
use Rattle.sheet.specs.declared.kinds.Proc.TheVariants as P
use Rattle.sheet.specs.declared.kinds.Val.TheVariants as V
use Rattle.sheet.specs.declared.kinds.Kind.{Kind}
use Rattle.sheet.specs.declared.kinds.Kind.TheVariants as K
use Rattle.sheet.specs.Laws.{both}

-- the kinds in the order of the rows
kinds : List Kind
kinds = K.Src S.Sine ∷ K.Src S.Square ∷ K.Src S.Sawtooth ∷ K.Src S.Triangle ∷ K.Src S.Fm ∷ K.Src S.Super ∷ K.Src S.Impact ∷ K.Src S.Env ∷ K.Src S.Noise ∷ K.Src S.Dust
    ∷ K.Fold F.Mix ∷ K.Fold F.Mul ∷ K.Chain ∷ K.Proc P.Gain
    ∷ K.Biquad B.Lowpass ∷ K.Biquad B.Highpass ∷ K.Biquad B.Bandpass ∷ K.Biquad B.Notch ∷ K.Biquad B.Peak ∷ K.Biquad B.Lowshelf ∷ K.Biquad B.Highshelf
    ∷ K.Proc P.Delay ∷ K.Proc P.Reverb ∷ K.Proc P.Modal ∷ K.Proc P.Drive ∷ K.Proc P.Tremolo ∷ K.Proc P.Chorus ∷ K.Proc P.Compress
    ∷ K.Val V.Const ∷ K.Val V.Slide ∷ K.Val V.Lfo ∷ K.Val V.Arp ∷ K.Val V.EnvMod ∷ K.Val V.Rand ∷ K.Mode ∷ K.Step ∷ []

named : map (λ (r : Row). r.number) rows ≡ map kind_number kinds
unfolding kinds kind_number src_number fold_number biquad_number proc_number val_number
named = refl

lookup-unknown : (rs : List Row) (ks : List Kind) → map (λ (r : Row). r.number) rs ≡ map kind_number ks → (k : ℕ) → ((kind : Kind) → kind_number kind ≢ k)
    → lookup rs k ≡ record { number = k; options = 0; numbers = 0; chain = empty }
unfolding lookup
lookup-unknown [] ks e k d = refl
lookup-unknown (r ∷ rs) [] e k d = absurd (omega (arith, ap length e))
lookup-unknown (r ∷ rs) (x ∷ xs) e k d =
    let h : r.number ≡ kind_number x = ap (λ (l : List ℕ). get_or l 0 0) e in
    rw (h, ne_eqb (kind_number x) k (d x)) (lookup-unknown rs xs (ap (drop 1) e) k d)

pub row-unknown : (k : ℕ) → ((kind : Kind) → kind_number kind ≢ k) → row_of k ≡ record { number = k; options = 0; numbers = 0; chain = empty }
row-unknown k d = lookup-unknown rows kinds named k d

-- what holds for every kind of a number that has an option holds, since some kind has the number
pub known-is : (k x : ℕ) → 1 ≤ (row_of k).options → ((kind : Kind) → kind_number kind ≡ k → x ≡ k) → x ≡ k
known-is k x h f = elim (ℕ_discrete x k) [
  | yes e ↦ e
  | no d ↦ absurd (omega (arith, h, ap (λ (r : Row). r.options) (row-unknown k (λ kind e. d (f kind e)))))
]

low : List Row → Bool
low [] = true
low (r ∷ rs) = leb r.number 52 && low rs

lookup-past : (rs : List Row) (k : ℕ) → low rs ≡ true → 53 ≤ k → lookup rs k ≡ record { number = k; options = 0; numbers = 0; chain = empty }
unfolding lookup low
lookup-past [] k e h = refl
lookup-past (r ∷ rs) k e h =
    let b = both (leb r.number 52) (low rs) e in
    let l = leb-true r.number 52 b.0 in
    rw (ne_eqb r.number k (λ q. omega arith)) (lookup-past rs k b.1 h)

pub row-past : (k : ℕ) → 53 ≤ k → row_of k ≡ record { number = k; options = 0; numbers = 0; chain = empty }
unfolding low
row-past k h = lookup-past rows k refl h
