-- What the proofs use of the definitions.
use Rattle.std.specs.Prelude.{◌≡◌, refl, Bool, true, false, cond, ◌&&◌, List, [], ◌∷◌, ℕ, suc, ◌+◌, ◌-◌, ◌*◌, ◌≤◌, ◌<◌, eqb, length, drop, get_or, replicate, Float}
use Rattle.std.proofs.Common.{sym, ap, ◌∙◌, mul-le-mul, add-one, arith, drop-cons, le-leb, eqb-true}
use Rattle.std.proofs.lemmas.List.{length-replicate}
use Rattle.std.specs.Float.{binary32}
use Rattle.std.specs.Float.Ieee.{of_bits}
use Rattle.std.proofs.lemmas.Bool.{lt-leb}
use Rattle.control.specs.declared.Controls.{Controls}
use Rattle.sheet.specs.Checks.{check_of}
use Rattle.machine.specs.Machine.{State, state, Answered, room_check}
use Rattle.machine.proofs.Laws.{room-passed}
use Rattle.machine.specs.Build.{build_of, begun}
use Rattle.calls.specs.Calls.{Builds}
use Rattle.render_voice.specs.Seconds.{is_digit, all_digits, decimal_from, seconds_from}

-- ---- the argument, digit by digit
first-digit : (n b : ℕ) (bs : List ℕ) → is_digit b ≡ true → seconds_from n (b ∷ bs) ≡ seconds_from (10 * n + (b - 48)) bs
unfolding seconds_from all_digits decimal_from
first-digit n b bs e = rw e

first-other : (n b : ℕ) (bs : List ℕ) → is_digit b ≡ false → seconds_from n (b ∷ bs) ≡ 0
unfolding seconds_from all_digits
first-other n b bs e = rw e

module _ (n k d : ℕ) (text : List ℕ) (h : k < length text) where
  pub seconds-digit : is_digit (get_or text k d) ≡ true → seconds_from n (drop k text) ≡ seconds_from (10 * n + (get_or text k d - 48)) (drop (k + 1) text)
  seconds-digit e = rw (drop-cons text k d, add-one k) (first-digit n (get_or text k d) (drop (suc k) text) e)

  pub seconds-other : is_digit (get_or text k d) ≡ false → seconds_from n (drop k text) ≡ 0
  seconds-other e = rw (drop-cons text k d) (first-other n (get_or text k d) (drop (suc k) text) e)

-- the same by the bounds of the byte, where no function asks whether it is a digit
module _ (n k : ℕ) (text : List ℕ) (h : k < length text) where
  pub seconds-digit-between : 48 ≤ get_or text k 0 → get_or text k 0 ≤ 57 → seconds_from n (drop k text) ≡ seconds_from (10 * n + (get_or text k 0 - 48)) (drop (k + 1) text)
  seconds-digit-between l m = seconds-digit n k 0 text h (rw (le-leb 48 (get_or text k 0) l, le-leb (get_or text k 0) 57 m))

  pub seconds-below : get_or text k 0 < 48 → seconds_from n (drop k text) ≡ 0
  seconds-below l = seconds-other n k 0 text h (rw (lt-leb 48 (get_or text k 0) l))

  pub seconds-above : 57 < get_or text k 0 → seconds_from n (drop k text) ≡ 0
  seconds-above m = seconds-other n k 0 text h (rw (le-leb 48 (get_or text k 0) (omega arith), lt-leb (get_or text k 0) 57 m))

pub seconds-end : (n : ℕ) → n ≤ 3600 → seconds_from n [] ≡ n
unfolding seconds_from all_digits decimal_from
seconds-end n h = rw (le-leb n 3600 h)

-- more digits make no smaller number
grows : (n : ℕ) (bs : List ℕ) → n ≤ decimal_from n bs
unfolding decimal_from
grows n [] = omega arith
grows n (b ∷ bs) = omega (arith, grows (10 * n + (b - 48)) bs)

pub seconds-high : (n : ℕ) (bs : List ℕ) → 3600 < n → seconds_from n bs ≡ 0
unfolding seconds_from
seconds-high n bs h = rw (lt-leb (decimal_from n bs) 3600 (omega (arith, grows n bs))) (none (all_digits bs))
  where
    none : (b : Bool) → cond (b && false) (decimal_from n bs) 0 ≡ 0
    none true = refl
    none false = refl

-- ---- a voice that was built has an accepted sheet
pub built : {s : List ℕ} {c r : Controls} {cs zs ds ws : List Float} {rs ss : List ℕ} {a : ℕ} → Builds s c cs rs zs a r ds ss ws → a ≡ 0 → check_of s ≡ 0
unfolding build_of
built {s} {c} {r} {cs} {zs} {ds} {ws} {rs} {ss} {a} b z = (room-passed s (length cs) (length rs) (length zs) (go (eqb low 0) refl (sym (ap (λ (t : Answered × State). t.0.0) b.is) ∙ z))).0
  where
    low : ℕ
    low = room_check s (length cs) (length rs) (length zs)

    go : (t : Bool) → eqb low 0 ≡ t → (let r : Answered × State = cond t ((0, []), begun s (state c cs rs zs)) ((low, []), state c cs rs zs) in r.0.0) ≡ 0 → low ≡ 0
    go true e h = eqb-true low 0 e
    go false e h = h

-- ---- numbers
pub most-samples : (r t : ℕ) → r ≤ 192000 → t ≤ 3600 → r * t ≤ 691200000
most-samples r t h g = mul-le-mul h g

-- the length of an array of zeros. No function asks for it since the zeros are a `Vec`
pub zeros-length : (n : ℕ) → n ≡ length (replicate n (of_bits binary32 0))
zeros-length n = sym (length-replicate n (of_bits binary32 0))
