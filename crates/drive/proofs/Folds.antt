-- Folds counted: what is left of a folding with n folds made, and one fold more.
use Rattle.std.proofs.Common.{◌≡◌, refl, sym, ap, ◌∙◌, Bool, true, false, cond, ℕ, suc, ◌+◌, ◌≤◌, ◌-◌, arith}
use Rattle.std.specs.Prelude.{Float}
use Rattle.std.specs.Float.Ieee.{lt}
use Rattle.float.specs.Order.{is_finite, clamp_of}
use Rattle.float.specs.Single.{◌⊖◌, zero, one, two}
use Rattle.drive.specs.Drive.{minus_one, minus_two, fold_by, fold_of}

-- the folding of y, with n folds made
abbrev pub rest : ℕ → Float → Float
rest n y = fold_by (1025 - n) (lt one y) (lt y minus_one) y

one_less : (n : ℕ) → n ≤ 1024 → 1025 - n ≡ suc (1025 - (n + 1))
one_less n h = omega arith

pub first-fold : (x : Float) → is_finite x ≡ true → rest 0 x ≡ fold_of x
unfolding fold_of
first-fold x h = sym (ap (λ (b : Bool). cond b (rest 0 x) zero) h)

-- one fold more, from above and from below, and none
pub fold-above : (n : ℕ) (y : Float) → n ≤ 1024 → lt one y ≡ true → rest n y ≡ rest (n + 1) (two ⊖ y)
unfolding fold_by
fold-above n y h a = rw (one_less n h, a)

pub fold-below : (n : ℕ) (y : Float) → n ≤ 1024 → lt one y ≡ false → lt y minus_one ≡ true → rest n y ≡ rest (n + 1) (minus_two ⊖ y)
unfolding fold_by
fold-below n y h a b = rw (one_less n h, a, b)

pub no-fold : (n : ℕ) (y : Float) → n ≤ 1024 → lt one y ≡ false → lt y minus_one ≡ false → rest n y ≡ y
unfolding fold_by
no-fold n y h a b = rw (one_less n h, a, b)

pub last-fold : (n : ℕ) (y : Float) → 1025 ≤ n → rest n y ≡ clamp_of y minus_one one
unfolding fold_by
last-fold n y h = let e : 1025 - n ≡ 0 = omega arith in rw e

-- a reflection that ends between -1 and 1 is the folding
pub fold-once : (x : Float) → is_finite x ≡ true → (z : Float) → z ≡ cond (lt one x) (two ⊖ x) (cond (lt x minus_one) (minus_two ⊖ x) x) → lt one z ≡ false → lt z minus_one ≡ false → z ≡ fold_of x
fold-once x h z e a b = go (lt one x) (lt x minus_one) refl refl e ∙ first-fold x h
  where
    go : (p q : Bool) → lt one x ≡ p → lt x minus_one ≡ q → z ≡ cond p (two ⊖ x) (cond q (minus_two ⊖ x) x) → z ≡ rest 0 x
    go true q i j d = sym (no-fold 1 z (omega arith) a b) ∙ ap (rest 1) d ∙ sym (fold-above 0 x (omega arith) i)
    go false true i j d = sym (no-fold 1 z (omega arith) a b) ∙ ap (rest 1) d ∙ sym (fold-below 0 x (omega arith) i j)
    go false false i j d = d ∙ sym (no-fold 0 x (omega arith) i j)
