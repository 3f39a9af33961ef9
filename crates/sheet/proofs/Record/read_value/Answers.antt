-- `sheet::Record::read_value` meets its contract: a number that is no value's is none of the five that `value_as` asks for. Assumes nothing.
use Rattle.std.specs.Prelude.{◌≡◌, refl, true, false, List, ◌≢◌, ℕ}
use Rattle.std.proofs.Common.{rules, sym, ap, ◌∙◌, ne_eqb}
use Rattle.sheet.specs.Kinds.{is_value}
use Rattle.sheet.specs.Numbers.{Numbered, kind_number, src_number, fold_number, biquad_number, proc_number, val_number}
use Rattle.sheet.specs.Value.{value_as}
use Rattle.sheet.specs.Laws.{never}
use Rattle.sheet.specs.declared.kinds.Kind.{Kind}
use Rattle.sheet.specs.declared.kinds.Kind.TheVariants as K
use Rattle.sheet.specs.declared.kinds.Val.{Val}
use Rattle.sheet.specs.declared.kinds.Val.TheVariants as V
use Rattle.sheet.proofs.Record.read_value.Goals as goal

as-const : (k : ℕ) (r : List ℕ) → ((v : Val) → val_number v ≢ k) → value_as (val_number V.Const) r ≡ value_as k r
unfolding value_as val_number
as-const k r d =
    rw (ne_eqb k 42 (λ e. d V.Slide (sym e)), ne_eqb k 43 (λ e. d V.Lfo (sym e)), ne_eqb k 44 (λ e. d V.Arp (sym e)), ne_eqb k 45 (λ e. d V.EnvMod (sym e)), ne_eqb k 46 (λ e. d V.Rand (sym e))) refl

value : (v : Val) → is_value (val_number v) ≡ true
unfolding val_number
value v = search rules

no-value : (k : Kind) → ((v : Val) → k ≢ K.Val v) → is_value (kind_number k) ≡ false
unfolding kind_number src_number fold_number biquad_number proc_number
no-value k d = search rules

pub returns-in_default : goal.returns-in_default
unfolding Numbered kind_number
returns-in_default c = c.value.ensures ∙ as-const _ _ (λ v. c.in_default.ensures (K.Val v))

pub returns-in-Val : goal.returns-in-Val
unfolding Numbered kind_number
returns-in-Val c = c.value-in-Val.ensures ∙ ap (λ k. value_as k c.args.self.now) (ap kind_number (sym c.in-Val.is) ∙ c.in-Some.ensures.0)

pub returns-in_default-kind : goal.returns-in_default-kind
unfolding Numbered
returns-in_default-kind c =
    c.value-in_default-kind.ensures
    ∙ as-const _ _ (λ v e. never (sym (value v) ∙ ap is_value (e ∙ sym c.in-Some.ensures.0) ∙ no-value c.in-Some.e.kind c.in_default-kind.not-Val))
