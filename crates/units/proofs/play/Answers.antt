use Rattle.std.specs.Prelude.{◌≡◌, false}
use Rattle.std.proofs.Math.Path.{refl, sym}
use Rattle.std.proofs.Math.Logic.{inl, inr}
use Rattle.sheet.specs.Kinds.{lookup}
use Rattle.sheet.specs.Numbers.{kind_number, fold_number, biquad_number, val_number}
use Rattle.sheet.specs.Laws.{never}
use Rattle.sheet.specs.declared.kinds.Fold.{Fold}
use Rattle.sheet.specs.declared.kinds.Fold.TheVariants as F
use Rattle.sheet.specs.declared.kinds.Val.{Val}
use Rattle.sheet.specs.declared.kinds.Val.TheVariants as V
use Rattle.sheet.specs.declared.kinds.Biquad.{Biquad}
use Rattle.sheet.specs.declared.kinds.Biquad.TheVariants as B
use Rattle.unit.specs.Buffers.{values_of}
use Rattle.proc_unit.specs.Fit.{filter-registers}
use Rattle.units.specs.Values.{has_unit}
use Rattle.units.proofs.play.Goals as goal

filter-values : (b : Biquad) → values_of (biquad_number b) ≡ 1
unfolding biquad_number lookup
filter-values B.Lowpass = refl
filter-values B.Highpass = refl
filter-values B.Bandpass = refl
filter-values B.Notch = refl
filter-values B.Peak = refl
filter-values B.Lowshelf = refl
filter-values B.Highshelf = refl

-- Mix and Mul have no unit, nor has a value
no-fold : (f : Fold) → has_unit (fold_number f) ≡ false
unfolding fold_number
no-fold F.Mix = refl
no-fold F.Mul = refl

no-value : (v : Val) → has_unit (val_number v) ≡ false
unfolding val_number
no-value V.Const = refl
no-value V.Slide = refl
no-value V.Lfo = refl
no-value V.Arp = refl
no-value V.EnvMod = refl
no-value V.Rand = refl

pub play-requires : goal.play-requires
unfolding kind_number
play-requires c = let p = rw c.in-Src.is at c.requires in record { lent = p.0; position = λ z. p.6; first = λ z. (p.3, p.5); second = λ z. p.4 }

pub play_filter-requires : goal.play_filter-requires
unfolding kind_number
play_filter-requires c =
    let p = rw c.in-Biquad.is at c.requires in
    (rw (filter-registers _ p.0) at p.0, p.3)

pub play-requires-in-Proc : goal.play-requires-in-Proc
unfolding kind_number
play-requires-in-Proc c = let p = rw c.in-Proc.is at c.requires in record { lent = p.0; own = λ z. (p.2, p.6); value = λ z. p.3; buffer = p.4 }

pub returns-in-Src : goal.returns-in-Src
unfolding kind_number
returns-in-Src c = rw c.in-Src.is c.play.ensures

pub returns-in-Biquad : goal.returns-in-Biquad
unfolding kind_number
returns-in-Biquad c = rw (c.in-Biquad.is, filter-values c.in-Biquad.filter) (c.play_filter.ensures c.args.c c.args.regs.now)

pub returns-in-Proc : goal.returns-in-Proc
unfolding kind_number
returns-in-Proc c = rw c.in-Proc.is c.play-in-Proc.ensures

pub returns-in-Fold : goal.returns-in-Fold
unfolding kind_number
returns-in-Fold c = elim c.in-Fold.is [
  | inl (f, e) ↦ never (sym (rw (e, no-fold f) at c.requires.1))
  | inr a ↦ elim a [
    | inl e ↦ never (sym (rw e at c.requires.1))
    | inr b ↦ elim b [
      | inl (v, e) ↦ never (sym (rw (e, no-value v) at c.requires.1))
      | inr d ↦ elim d [ inl e ↦ never (sym (rw e at c.requires.1)) | inr e ↦ never (sym (rw e at c.requires.1)) ]
    ]
  ]
]
