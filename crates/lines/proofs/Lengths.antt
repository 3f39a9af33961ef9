-- How long the lines can be, at up to 192,000 samples a second: each rounded operation is bounded by the same one on the largest numbers, which is computed. Assumes nothing.
use mathlib.Core.Path.{◌≡◌, refl, ◌∙◌}
use mathlib.Core.Logic.{◌⊎◌, inl, inr}
use mathlib.Core.Bool.{Bool, true, false, not, ◌||◌}
use mathlib.Core.List.{List, [], ◌∷◌}
use Prim.Native.Nat.{ℕ, zero, suc, ◌+◌, ◌*◌, ◌/◌, ◌^◌, ◌-◌, ◌≤◌, ◌<◌, max, min, zero-le}
use native.Mathlib.Nat.{le_trans, zero-lt-suc, le-div_iff_mul-le}
use native.Mathlib.Omega.{arith}
use lib.ListN.{get_or}
use lib.Dec.{T, ltb→lt, lt→ltb, lit≤, lit<}
use lib.Ieee.{Float, nan, inf, fin, binary32, up, down, lt, le, eq, of_bits, of_int, units, round, add, mul, div, to_unsigned}
use lib.Ieee.Fits.{down_pos}
use lib.Ieee.Exact.{HasValue}
use Rattle.float.specs.Order.{min_of}
use Rattle.ieee.proofs.Tests.{two_to, one-32, yes, no}
use Rattle.lines.specs.Lines.{single, zero_f, one_f, max_delay_secs, chorus_base_secs, chorus_swing_secs, tuning_rate, delay_line, chorus_base, chorus_swing, chorus_line, tuned_line, comb_tunings, allpass_tunings, comb_line, allpass_line}
use Rattle.lines.proofs.Bounds.{UpTo, AtMost, up-to-at-most, whole-up-to, not-above, min-at-most, clamp-at-most, mul-up-to, mul-at-most, add-at-most, div-up-to, cast-le}

one : 0 < 1
one = zero-lt-suc 0

-- ---- the literals
secs-le : UpTo max_delay_secs 30 1 × UpTo chorus_base_secs 15 1000 × UpTo chorus_swing_secs 1 100
unfolding of_bits
secs-le = (lit≤ tt, lit≤ tt, lit≤ tt)

depth_le : UpTo zero_f 1 1 × UpTo one_f 1 1
unfolding of_bits
depth_le = (lit≤ tt, lit≤ tt)

tuning-rate : HasValue tuning_rate false 44100 1
unfolding of_bits
tuning-rate = (refl, refl)

-- ---- the operations on the largest numbers
longest-delay : UpTo (round binary32 false (30 * 192000) (1 * 1)) 5760000 1
unfolding round
longest-delay = lit≤ tt

largest-base : UpTo (round binary32 false (15 * 192000) (1000 * 1)) 2880 1
unfolding round
largest-base = lit≤ tt

largest-depth : UpTo (round binary32 false (1 * 1) (1 * 100)) 1 100
unfolding round
largest-depth = lit≤ tt

largest-swing : UpTo (round binary32 false (1 * 192000) (100 * 1)) 1920 1
unfolding round
largest-swing = lit≤ tt

largest-sum : UpTo (round binary32 false (2880 * 1 + 1920 * 1) (1 * 1)) 4800 1
unfolding round
largest-sum = lit≤ tt

largest-scale : UpTo (round binary32 false (192000 * 1) (1 * 44100)) 4353742 1000000
unfolding round
largest-scale = lit≤ tt

-- a tuning of t samples is at most a tenths of a sample at 192,000 Hz
abbrev pub AtTop : ℕ → ℕ → Type 0
AtTop t a = UpTo (round binary32 false (t * 4353742) (1 * 1000000)) a 10

-- the longest tunings
comb-top : AtTop 1491 64915
unfolding round
comb-top = lit≤ tt

allpass-top : AtTop 556 24207
unfolding round
allpass-top = lit≤ tt

up-to-small : (x : Float) → UpTo x 64915 10 → T (lt x (two_to 20))
unfolding lt
up-to-small nan u = absurd u
up-to-small (inf s) u = absurd u
up-to-small (fin true m e) u = absurd u
up-to-small (fin false m e) u = lt→ltb (m * up e * 1) (1 * 2 ^ 20 * down e) (go (m * up e) (down e) (down_pos e) u)
  where
    go : (n d : ℕ) → 0 < d → n * 10 ≤ 64915 * d → n * 1 < 1 * 2 ^ 20 * d
    go n d p h = omega arith

-- ---- a length y raised to one, as the code has it
abbrev pub Raised : Float → Float → Type 0
Raised y z = ((lt one_f y ≡ true) × (z ≡ y)) ⊎ ((lt one_f y ≡ false) × (z ≡ one_f))

least : (y : Float) → T (lt (two_to 0) y) → 1 ≤ to_unsigned 64 y
unfolding lt to_unsigned
least nan h = absurd h
least (inf true) h = absurd h
least (inf false) h = lit≤ tt
least (fin true m e) h = absurd h
least (fin false m e) h = both (m * up e / down e) ((le-div_iff_mul-le {k = down e} (down_pos e)).1 (go (m * up e) (down e) (ltb→lt (1 * 1 * down e) (m * up e * 1) h)))
  where
    go : (n d : ℕ) → 1 * 1 * d < n * 1 → 1 * d ≤ n
    go n d h = omega arith

    both : (q : ℕ) → 1 ≤ q → 1 ≤ min q (2 ^ 64 - 1)
    both q h = omega arith

above-le : (x y : Float) → T (lt x y) → T (le x y)
unfolding le
above-le x y h = go (lt x y) (eq x y) h
  where
    go : (p q : Bool) → T p → T (p || q)
    go true q h = tt
    go false q h = absurd h

one-small : T (le (two_to 0) (two_to 0)) × T (lt (two_to 0) (two_to 20)) × (to_unsigned 64 (two_to 0) ≡ 1)
unfolding le lt eq to_unsigned
one-small = (tt, tt, refl)

pub raised : (y z : Float) → Raised y z → T (lt y (two_to 20)) → T (le (two_to 0) z) × T (lt z (two_to 20)) × (to_unsigned 64 z ≡ max (to_unsigned 64 y) 1)
raised y z (inl (h, e)) b =
    let a : T (lt (two_to 0) y) = yes (rw one-32 at h) in
    rw e (above-le (two_to 0) y a, b, more (to_unsigned 64 y) (least y a))
  where
    more : (n : ℕ) → 1 ≤ n → n ≡ max n 1
    more n h = omega arith
raised y z (inr (h, e)) b =
    let a : T (not (lt (two_to 0) y)) = no (rw one-32 at h) in
    rw (e, one-32) (one-small.0, one-small.1, one-small.2 ∙ less (to_unsigned 64 y) (cast-le 64 y 1 1 one (not-above y (two_to 0) 1 1 (lit≤ tt) a)))
  where
    less : (n : ℕ) → n ≤ 1 → 1 ≡ max n 1
    less n h = omega arith

-- ---- the largest of a list
abbrev most : List ℕ → ℕ
most [] = 0
most (t ∷ ts) = max t (most ts)

get_or-most : (ts : List ℕ) (k : ℕ) → get_or ts k 0 ≤ most ts
get_or-most [] k = zero-le
get_or-most (t ∷ ts) zero = left t (most ts)
  where
    left : (i j : ℕ) → i ≤ max i j
    left i j = omega arith
get_or-most (t ∷ ts) (suc k) = le_trans (get_or-most ts k) (right t (most ts))
  where
    right : (i j : ℕ) → j ≤ max i j
    right i j = omega arith

-- ---- the lines
module _ (sr : ℕ) (h : sr ≤ 192000) where
  rate : UpTo (single sr) 192000 1
  rate = whole-up-to binary32 sr 192000 h (le_trans h (lit≤ tt))

  pub delay-le : (secs : Float) → delay_line secs sr ≤ 5760000
  unfolding delay_line
  delay-le secs =
      let x = mul binary32 (min_of secs max_delay_secs) (single sr) in
      let l : to_unsigned 64 x ≤ 5760000 =
      cast-le 64 x 5760000 1 one (mul-at-most binary32 30 1 192000 1 5760000 1 one one _ _ (min-at-most secs max_delay_secs 30 1 secs-le.0) rate longest-delay) in
      omega arith

  pub base-up-to : UpTo (chorus_base sr) 2880 1
  unfolding chorus_base
  base-up-to = mul-up-to binary32 15 1000 192000 1 2880 1 (lit< tt) one _ _ secs-le.1 rate largest-base

  pub swing-at-most : (depth : Float) → AtMost (chorus_swing depth sr) 1920 1
  unfolding chorus_swing
  swing-at-most depth =
      mul-at-most binary32 1 100 192000 1 1920 1 (lit< tt) one _ _
      (mul-at-most binary32 1 1 1 100 1 100 one (lit< tt) _ _ (clamp-at-most depth _ _ 1 1 depth_le.0 depth_le.1) secs-le.2 largest-depth)
      rate
      largest-swing

  pub chorus-sum-le : (depth : Float) → to_unsigned 64 (add binary32 (chorus_base sr) (chorus_swing depth sr)) ≤ 4800
  chorus-sum-le depth = cast-le 64 _ 4800 1 one (add-at-most binary32 2880 1 1920 1 4800 1 one one _ _ base-up-to (swing-at-most depth) largest-sum)

  pub chorus-le : (depth : Float) → chorus_line depth sr ≤ 4802
  unfolding chorus_line
  chorus-le depth = omega (arith, chorus-sum-le depth)

  scale-le : UpTo (div binary32 (single sr) tuning_rate) 4353742 1000000
  scale-le = div-up-to binary32 192000 1 44100 1 4353742 1000000 one one _ _ (lit< tt) rate tuning-rate largest-scale

  -- a tuning up to m
  tuned-up-to : (t m a : ℕ) → t ≤ m → m ≤ 2 ^ 24 → AtTop m a → UpTo (mul binary32 (single t) (div binary32 (single sr) tuning_rate)) a 10
  tuned-up-to t m a l k u = mul-up-to binary32 m 1 4353742 1000000 a 10 one (lit< tt) _ _ (whole-up-to binary32 t m l (le_trans l k)) scale-le u

  pub tuned-le : (t m a : ℕ) → t ≤ m → m ≤ 2 ^ 24 → AtTop m a → tuned_line t sr ≤ max (a / 10) 1
  unfolding tuned_line
  tuned-le t m a l k u =
      let x = mul binary32 (single t) (div binary32 (single sr) tuning_rate) in
      let n : to_unsigned 64 x ≤ a / 10 = cast-le 64 x a 10 (lit< tt) (up-to-at-most x a 10 (tuned-up-to t m a l k u)) in
      omega arith

  -- what `tuned_by` asks
  pub tuned-small : (t : ℕ) {x y : Float} → t ≤ 1491 → x ≡ single t → y ≡ div binary32 (single sr) tuning_rate → T (lt (mul binary32 x y) (two_to 20))
  tuned-small t l e f = rw (e, f) (up-to-small _ (tuned-up-to t 1491 64915 l (lit≤ tt) comb-top))

  pub comb-le : (k : ℕ) → comb_line k sr ≤ 6491
  comb-le k = tuned-le (get_or comb_tunings k 0) 1491 64915 (get_or-most comb_tunings k) (lit≤ tt) comb-top

  pub allpass-le : (k : ℕ) → allpass_line k sr ≤ 2420
  allpass-le k = tuned-le (get_or allpass_tunings k 0) 556 24207 (get_or-most allpass_tunings k) (lit≤ tt) allpass-top

-- ---- the shortest
pub delay-ge : (secs : Float) (sr : ℕ) → 1 ≤ delay_line secs sr
unfolding delay_line
delay-ge secs sr = omega arith

pub chorus-ge : (depth : Float) (sr : ℕ) → 2 ≤ chorus_line depth sr
unfolding chorus_line
chorus-ge depth sr = omega arith

pub tuned-ge : (t sr : ℕ) → 1 ≤ tuned_line t sr
unfolding tuned_line
tuned-ge t sr = omega arith

-- a contract's three facts
pub within : {r n lo hi : ℕ} → r ≡ n → lo ≤ n → n ≤ hi → (r ≡ n) × (lo ≤ r) × (r ≤ hi)
within e l u = (e, omega arith, omega arith)

-- the tunings as the code has them
pub tunings : (of_bits binary32 0x448b_8000 ≡ single 1116)
    × (of_bits binary32 0x4494_8000 ≡ single 1188)
    × (of_bits binary32 0x449f_a000 ≡ single 1277)
    × (of_bits binary32 0x44a9_8000 ≡ single 1356)
    × (of_bits binary32 0x44b1_c000 ≡ single 1422)
    × (of_bits binary32 0x44ba_6000 ≡ single 1491)
    × (of_bits binary32 0x440b_0000 ≡ single 556)
    × (of_bits binary32 0x43dc_8000 ≡ single 441)
    × (of_bits binary32 0x43aa_8000 ≡ single 341)
    × (of_bits binary32 0x4361_0000 ≡ single 225)
unfolding of_bits of_int round units
tunings = (refl, refl, refl, refl, refl, refl, refl, refl, refl, refl)
