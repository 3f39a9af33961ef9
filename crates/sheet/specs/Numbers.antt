-- The number of each kind, as document 01 lists them.
use Rattle.std.specs.Prelude.{◌≡◌, ◌≢◌, ◌≤◌, List, map, ℕ, Option, Some, None}
use Rattle.sheet.specs.declared.kinds.Src.{Src}
use Rattle.sheet.specs.declared.kinds.Src.TheVariants as S
use Rattle.sheet.specs.declared.kinds.Fold.{Fold}
use Rattle.sheet.specs.declared.kinds.Fold.TheVariants as F
use Rattle.sheet.specs.declared.kinds.Biquad.{Biquad}
use Rattle.sheet.specs.declared.kinds.Biquad.TheVariants as B
use Rattle.sheet.specs.declared.kinds.Proc.{Proc}
use Rattle.sheet.specs.declared.kinds.Proc.TheVariants as P
use Rattle.sheet.specs.declared.kinds.Val.{Val}
use Rattle.sheet.specs.declared.kinds.Val.TheVariants as V
use Rattle.sheet.specs.declared.kinds.Kind.{Kind}
use Rattle.sheet.specs.declared.kinds.Kind.TheVariants as K
use Rattle.sheet.specs.declared.kinds.Chain.{Chain as Made}
use Rattle.sheet.specs.declared.kinds.Chain.TheVariants as C
use Rattle.sheet.specs.declared.kinds.Entry.{Entry}
use Rattle.sheet.specs.Kinds.{row_of, Chain, empty, values, nodes, modes, steps}

unfoldable pub src_number : Src → ℕ
src_number S.Sine = 1
src_number S.Square = 2
src_number S.Sawtooth = 3
src_number S.Triangle = 4
src_number S.Fm = 5
src_number S.Super = 6
src_number S.Impact = 7
src_number S.Env = 8
src_number S.Noise = 9
src_number S.Dust = 10

unfoldable pub fold_number : Fold → ℕ
fold_number F.Mix = 11
fold_number F.Mul = 12

unfoldable pub biquad_number : Biquad → ℕ
biquad_number B.Lowpass = 22
biquad_number B.Highpass = 23
biquad_number B.Bandpass = 24
biquad_number B.Notch = 25
biquad_number B.Peak = 26
biquad_number B.Lowshelf = 27
biquad_number B.Highshelf = 28

unfoldable pub proc_number : Proc → ℕ
proc_number P.Gain = 21
proc_number P.Delay = 29
proc_number P.Reverb = 30
proc_number P.Modal = 31
proc_number P.Drive = 32
proc_number P.Tremolo = 33
proc_number P.Chorus = 34
proc_number P.Compress = 35

unfoldable pub val_number : Val → ℕ
val_number V.Const = 41
val_number V.Slide = 42
val_number V.Lfo = 43
val_number V.Arp = 44
val_number V.EnvMod = 45
val_number V.Rand = 46

unfoldable pub kind_number : Kind → ℕ
kind_number (K.Src s) = src_number s
kind_number (K.Fold f) = fold_number f
kind_number K.Chain = 13
kind_number (K.Biquad b) = biquad_number b
kind_number (K.Proc p) = proc_number p
kind_number (K.Val v) = val_number v
kind_number K.Mode = 51
kind_number K.Step = 52

-- whether this is the entry of a number, and none where it is no kind's
unfoldable pub Numbered : ℕ → Option Entry → Type 0
Numbered k (Some e) = (kind_number e.kind ≡ k) × (e.options ≡ (row_of k).options) × (e.numbers ≡ (row_of k).numbers) × (e.numbers ≤ 7)
Numbered k None = (kind : Kind) → kind_number kind ≢ k

-- the kinds of a table by their numbers
abbrev pub numbers_of : List Kind → List ℕ
numbers_of ks = map kind_number ks

-- what a chain is made of, as the rows of the kinds say it
unfoldable pub chain_of : Made → Chain
chain_of C.Empty = empty
chain_of (C.Values n) = values n
chain_of C.Nodes = nodes
chain_of C.Modes = modes
chain_of C.Steps = steps
