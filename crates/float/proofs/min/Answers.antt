use mathlib.Core.Path.{◌≡◌, sym, subst, ◌∙◌}
use mathlib.Core.Bool.{false}
use lib.Dec.{T}
use lib.Ieee.{binary32, is_nan}
use Rattle.float.specs.Order.{negative}
use Rattle.ieee.proofs.Tests.{yes, no, zero-32}
use Rattle.float.proofs.Order.{min-left, min-right, min-past, min-kept, min-equal, min-zero, same, same_cond}
use Rattle.float.proofs.min.Goals as goal

pub returns-then-x-y : goal.returns-then-x-y
returns-then-x-y c = min-left c.args.x c.args.y (yes c.if-x-y.true)

pub returns-then-x-y-2 : goal.returns-then-x-y-2
returns-then-x-y-2 c = min-right c.args.x c.args.y (yes c.if-x-y-2.true)

pub returns-then-is_nan : goal.returns-then-is_nan
returns-then-is_nan c = min-past c.args.x c.args.y (sym c.is_nan.ensures.value ∙ c.if-is_nan.true)

pub returns-then-is_nan-2 : goal.returns-then-is_nan-2
returns-then-is_nan-2 c = min-kept c.args.x c.args.y (sym c.is_nan.ensures.value ∙ c.if-is_nan.false) (sym c.is_nan-else-is_nan.ensures.value ∙ c.if-is_nan-2.true)

pub returns-then-x : goal.returns-then-x
returns-then-x c =
    let one = c.if-x-y.false in
    let two = c.if-x-y-2.false in
    let x-number : is_nan c.args.x ≡ false = sym c.is_nan.ensures.value ∙ c.if-is_nan.false in
    let y-number : is_nan c.args.y ≡ false = sym c.is_nan-else-is_nan.ensures.value ∙ c.if-is_nan-2.false in
    min-zero c.args.x c.args.y (subst T (sym c.well_formed.0.1) tt) (subst T (sym c.well_formed.1.0.1) tt) (yes (rw zero-32 at c.if-x.true)) y-number (no one) (no two)
    ∙ sym (min-equal c.args.x c.args.y x-number y-number one two)

pub returns-else-x : goal.returns-else-x
returns-else-x c =
    let one = c.if-x-y.false in
    let two = c.if-x-y-2.false in
    let x-number : is_nan c.args.x ≡ false = sym c.is_nan.ensures.value ∙ c.if-is_nan.false in
    let y-number : is_nan c.args.y ≡ false = sym c.is_nan-else-is_nan.ensures.value ∙ c.if-is_nan-2.false in
    (same_cond (negative c.args.x) c.args.x c.args.y (same binary32 c.args.x c.args.y (subst T (sym c.well_formed.0.1) tt) (subst T (sym c.well_formed.1.0.1) tt) x-number y-number (no one) (no two) (no (rw zero-32 at c.if-x.false)))).1
    ∙ sym (min-equal c.args.x c.args.y x-number y-number one two)
