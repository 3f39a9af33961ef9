-- d * 2 ^ j units of the smallest f32, scaled to a number n of 47 or 48 digits: its root by either definition.
use Rattle.std.proofs.Common.{◌≡◌, ℕ, suc, ◌+◌, ◌-◌, ◌*◌, ◌/◌, ◌^◌, ◌<◌, ◌≤◌, false, sym, ap, ◌∙◌, subst, inr, le_trans, le_of_eq, lt_of_lt_of_le, lt_irrefl, mul-le-mul_right, mul-lt-mul_of_pos_right, mul-pos, mul_assoc, lt_of_not-le, mul-div_cancel, arith, lit≤, pow_pos, pow_mono, pow-add, shl_lt}
use lib.Count.{leading_top}
use lib.Ieee.{binary32, size, units, round, root_twice}
use lib.Ieee.Nearest.{closest_same}
use Rattle.ieee.proofs.Build.{pw, size_is, round-at}
use Rattle.sqrt.specs.Sqrt.{root_of, nearest_root}
use Rattle.sqrt.proofs.Squares.{near-is}
use Rattle.sqrt.proofs.Twice.{v, nearest-twice, twice-ge, twice-lt}

root_of-at : (w k : ℕ) → (size w - 47) / 2 ≡ k → root_of w ≡ units binary32 false (nearest_root (w / 2 ^ (2 * k))) (k + 51)
unfolding root_of
root_of-at w k e = ap (λ (z : ℕ). units binary32 false (nearest_root (w / 2 ^ (2 * z))) (z + 51)) e

-- with d's digits counted: i + 1 of them
module _ (d j i : ℕ) (least : 2 ^ i ≤ d) (most : d < 2 ^ suc i) (I : i < 24) where
  abbrev k : ℕ
  k = (suc i + j) / 2

  abbrev s : ℕ
  s = j + 47 - 2 * k

  abbrev n : ℕ
  n = d * 2 ^ s

  join : s + 2 * k ≡ j + 47
  join = omega arith

  whole : d * 2 ^ j * 2 ^ 47 ≡ d * 2 ^ (j + 47)
  whole = mul_assoc d (2 ^ j) (2 ^ 47) ∙ ap (λ (z : ℕ). d * z) (sym (pow-add 2 j 47))

  hi : n < 2 ^ 48
  hi = lt_of_lt_of_le (shl_lt (suc i) s most) (pow_mono room)
    where
      room : suc i + s ≤ 48
      room = omega arith

  lo : 2 ^ 46 ≤ n
  lo = le_trans (pow_mono room) (le_trans (le_of_eq (pow-add 2 i s)) (mul-le-mul_right (2 ^ s) least))
    where
      room : 46 ≤ i + s
      room = omega arith

  counted : (size (d * 2 ^ j * 2 ^ 47) - 47) / 2 ≡ k
  counted =
      ap (λ (z : ℕ). (size z - 47) / 2) whole
      ∙ ap (λ (z : ℕ). (z - 47) / 2) (size_is (d * 2 ^ (j + 47)) (i + (j + 47)) (le_trans (le_of_eq (pow-add 2 i (j + 47))) (mul-le-mul_right (2 ^ (j + 47)) least)) (subst (λ (z : ℕ). d * 2 ^ (j + 47) < 2 ^ z) next (shl_lt (suc i) (j + 47) most)))
      ∙ tidy
    where
      next : suc i + (j + 47) ≡ suc (i + (j + 47))
      next = omega arith

      tidy : (suc (i + (j + 47)) - 47) / 2 ≡ k
      tidy = omega arith

  -- nothing is dropped but zeros
  dropped : d * 2 ^ j * 2 ^ 47 / 2 ^ (2 * k) ≡ n
  dropped =
      ap (λ (z : ℕ). z / 2 ^ (2 * k)) (whole ∙ ap (λ (z : ℕ). d * z) (sym (pw s (2 * k) (j + 47) join)) ∙ sym (mul_assoc d (2 ^ s) (2 ^ (2 * k))))
      ∙ mul-div_cancel n (pow_pos (2 * k))

  by-squares : root_of (d * 2 ^ j * 2 ^ 47) ≡ units binary32 false (nearest_root n) (k + 51)
  by-squares = root_of-at (d * 2 ^ j * 2 ^ 47) k counted ∙ ap (λ (z : ℕ). units binary32 false (nearest_root z) (k + 51)) dropped

  abbrev G : ℕ
  G = 2 ^ (k + 2172)

  G0 : 0 < G
  G0 = pow_pos (k + 2172)

  double : 2 * G ≡ 2 ^ (k + 2173)
  double = pw 1 (k + 2172) (k + 2173) go
    where
      go : 1 + (k + 2172) ≡ k + 2173
      go = omega arith

  fourfold : 4 * G ≡ 2 ^ (k + 2174)
  fourfold = pw 2 (k + 2172) (k + 2174) go
    where
      go : 2 + (k + 2172) ≡ k + 2174
      go = omega arith

  square : d * 2 ^ j * 2 ^ 4393 ≡ v n G
  square =
      mul_assoc d (2 ^ j) (2 ^ 4393)
      ∙ ap (λ (z : ℕ). d * z) (sym (pow-add 2 j 4393) ∙ sym (pw s (k + 2173 + (k + 2173)) (j + 4393) go))
      ∙ sym (mul_assoc d (2 ^ s) (2 ^ (k + 2173 + (k + 2173))))
      ∙ ap (λ (z : ℕ). n * z) (pow-add 2 (k + 2173) (k + 2173) ∙ ap (λ (z : ℕ). z * z) (sym double))
    where
      go : s + (k + 2173 + (k + 2173)) ≡ j + 4393
      go = omega (arith, join)

  abbrev t : ℕ
  t = root_twice (v n G)

  scale : 4 * G * 2 ^ 149 ≡ 2 ^ 2272 * 2 ^ (k + 51)
  scale = ap (λ (z : ℕ). z * 2 ^ 149) fourfold ∙ pw (k + 2174) 149 (2272 + (k + 51)) go ∙ pow-add 2 2272 (k + 51)
    where
      go : k + 2174 + 149 ≡ 2272 + (k + 51)
      go = omega arith

  -- 2 ^ p times the unit 2 ^ (k + 51) of 2 ^ -149, in places of 2 ^ -2272
  places : (p : ℕ) → 2 ^ (p + (k + 51)) * 2 ^ 2272 ≡ 2 ^ p * (4 * G) * 2 ^ 149
  places p = ap (λ (z : ℕ). z * 2 ^ 2272) (pow-add 2 p (k + 51)) ∙ mul_assoc (2 ^ p) (2 ^ (k + 51)) (2 ^ 2272) ∙ ap (λ (z : ℕ). 2 ^ p * z) (native.Mathlib.Nat.mul_comm (2 ^ (k + 51)) (2 ^ 2272) ∙ sym scale) ∙ sym (mul_assoc (2 ^ p) (4 * G) (2 ^ 149))

  by-twice : round binary32 false (root_twice (d * 2 ^ j * 2 ^ 4393)) (2 ^ 2272) ≡ units binary32 false (nearest_root n) (k + 51)
  by-twice =
      ap (λ (z : ℕ). round binary32 false (root_twice z) (2 ^ 2272)) square
      ∙ round-at binary32 false t (2 ^ 2272) (k + 51) (pow_pos 2272) (
        inr (le_trans (le_of_eq (places 23)) (mul-le-mul_right (2 ^ 149) (twice-ge n G G0 lo hi))),
        lt_of_lt_of_le (mul-lt-mul_of_pos_right (twice-lt n G G0 lo hi) (pow_pos 149)) (le_of_eq (sym (places 24))),
      )
      ∙ ap (λ (q : ℕ). units binary32 false q (k + 51))
      (closest_same (t * 2 ^ 149) (2 ^ 2272 * 2 ^ (k + 51)) t (4 * G) (mul-pos (pow_pos 2272) (pow_pos (k + 51))) (subst (λ (z : ℕ). 0 < z) (sym fourfold) (pow_pos (k + 2174))) (mul_assoc t (2 ^ 149) (4 * G) ∙ ap (λ (z : ℕ). t * z) (native.Mathlib.Nat.mul_comm (2 ^ 149) (4 * G) ∙ scale))
      ∙ nearest-twice n G (nearest_root n) G0 (near-is n hi))

pub one-root : (d j : ℕ) → 0 < d → d < 2 ^ 24 → round binary32 false (root_twice (d * 2 ^ j * 2 ^ 4393)) (2 ^ 2272) ≡ root_of (d * 2 ^ j * 2 ^ 47)
one-root d j D h =
    let l = leading_top 64 d D (lt_of_lt_of_le h (lit≤ tt)) in
    let i = l.0 in
    let I : i < 24 = lt_of_not-le (λ (g : 24 ≤ i). lt_irrefl d (lt_of_lt_of_le h (le_trans (pow_mono g) l.2))) in
    by-twice d j i l.2 l.3 I ∙ sym (by-squares d j i l.2 l.3 I)
