-- What the proof of `narrow_normal` cites: an f64 whose nearest f32 is normal, with the last 29 digits of its bit pattern rounded away.
use Rattle.std.proofs.Common.{◌≡◌, ℕ, zero, suc, ◌+◌, ◌-◌, ◌*◌, ◌/◌, ◌%◌, ◌^◌, ◌<◌, ◌≤◌, Bool, true, false, cond, not, ◌&&◌, T, eqb, leb, ◌⊎◌, pos, sym, refl, ap, ◌∙◌, subst, inl, inr, le_of_eq, lt_of_le_of_lt, mul-le-mul_right, mod-lt, mod-eq_of_lt, mul_assoc, div-lt_iff_lt-mul, lt_of_mul-lt-mul_right, arith, eqb→eq, ltb→lt, leb→le, pow_pos, pow-add}
use Prim.Native.Nat.{compare, Ordering}
use lib.Dec.{is_le, compare_is_eq, nleb→lt}
use lib.Pow.{pow-lt, split}
use lib.Ieee.{Float, nan, inf, fin, Format, binary32, binary64, low, hid, ones, top, up, down, nearest, odd, units, round, neg, lt, fits, is_nan, nan_bits, of_fields, of_bits, to_bits}
use lib.Ieee.Fits.{round-fits, fits_widens, inf-fits, neg-fits, and_i}
use lib.Ieee.Bits.{of_bits-fits, nan_bits_is}
use lib.Ieee.Exact.{HasValue, units_val}
use lib.Ieee.Nearest.{closest}
use Rattle.ieee.proofs.Tests.{null, yes, no}
use Rattle.ieee.proofs.Value.{revalue, same-value}
use Rattle.ieee.proofs.Build.{pw, build, units-fits}
use Rattle.ieee.proofs.Whole.{closest-past}
use Rattle.ieee.proofs.Read.{Seen, seen, level, above-neg, above_no_nan, nothing-below}
use Rattle.cast.specs.Narrow.{narrow_of}
use Rattle.cast.proofs.Narrow.{Rounds, large, neg-narrow}

-- ---- n / 2 ^ 29 to the nearest, by a sum
pub by-sum : (n : ℕ) → (n + (268435455 + n / 2 ^ 29 % 2)) / 2 ^ 29 ≡ closest n (2 ^ 29)
by-sum n = go (compare (n % 2 ^ 29 * 2) (2 ^ 29)) (leb→le (n % 2 ^ 29 * 2) (2 ^ 29)) (nleb→lt (n % 2 ^ 29 * 2) (2 ^ 29)) (eqb→eq (n % 2 ^ 29 * 2) (2 ^ 29)) (λ e. subst (λ (z : ℕ). T (eqb (n % 2 ^ 29 * 2) z)) e (lib.Dec.eqb_refl (n % 2 ^ 29 * 2)))
  where
    below : (n : ℕ) → n % 536870912 * 2 ≤ 536870912 → (n % 536870912 * 2 ≡ 536870912 → ⊥) → (n + (268435455 + n / 536870912 % 2)) / 536870912 ≡ n / 536870912
    below n h e = omega arith

    tie : (n : ℕ) → n % 536870912 * 2 ≡ 536870912 → (n + (268435455 + n / 536870912 % 2)) / 536870912 ≡ n / 536870912 + n / 536870912 % 2
    tie n h = omega arith

    above : (n : ℕ) → 536870912 < n % 536870912 * 2 → (n + (268435455 + n / 536870912 % 2)) / 536870912 ≡ suc (n / 536870912)
    above n h = omega arith

    go : (o : Ordering) → (T (is_le o) → n % 2 ^ 29 * 2 ≤ 2 ^ 29) → (T (not (is_le o)) → 2 ^ 29 < n % 2 ^ 29 * 2) → (T (compare_is_eq o) → n % 2 ^ 29 * 2 ≡ 2 ^ 29) → (n % 2 ^ 29 * 2 ≡ 2 ^ 29 → T (compare_is_eq o))
        → (n + (268435455 + n / 2 ^ 29 % 2)) / 2 ^ 29 ≡ nearest (n / 2 ^ 29) o
    go Ordering.lt a b c d = below n (a tt) d
    go Ordering.eq a b c d = tie n (c tt)
    go Ordering.gt a b c d = above n (b tt)

-- ---- y by its exponent's field
by_field : (y : Float) (e t : ℕ) → 896 < e → e < 1150 → Seen binary64 y e t → (j : ℕ) × (e ≡ suc j) × (896 ≤ j) × (j ≤ 1148)
by_field y e t a b (inl v) = absurd (none e a v.0)
  where
    none : (e : ℕ) → 896 < e → e ≡ 0 → ⊥
    none e h z = omega arith
by_field y e t a b (inr (inl v)) = (v.0, v.2, from e v.0 a v.2, to e v.0 b v.2)
  where
    from : (e j : ℕ) → 896 < e → e ≡ suc j → 896 ≤ j
    from e j h z = omega arith

    to : (e j : ℕ) → e < 1150 → e ≡ suc j → j ≤ 1148
    to e j h z = omega arith
by_field y e t a b (inr (inr v)) = absurd (none e b v.0)
  where
    none : (e : ℕ) → e < 1150 → e ≡ 2047 → ⊥
    none e h z = omega arith

-- ---- above zero
-- the pattern is e * 2 ^ 52 + t, and the digits t are rounded with the field above them
rounded : (b : ℕ) → closest b (2 ^ 29) ≡ b / 2 ^ 52 * 2 ^ 23 + closest (b % 2 ^ 52) (2 ^ 29)
rounded b =
    ap (λ (z : ℕ). closest z (2 ^ 29)) (sym (split b 52) ∙ swap (b / 2 ^ 52) (b % 2 ^ 52))
    ∙ closest-past (b % 2 ^ 52) (2 ^ 29) (b / 2 ^ 52 * 2 ^ 22) (pow_pos 29)
    ∙ back (b / 2 ^ 52) (closest (b % 2 ^ 52) (2 ^ 29))
  where
    swap : (e t : ℕ) → e * 4503599627370496 + t ≡ t + e * 4194304 * 2 * 536870912
    swap e t = omega arith

    back : (e c : ℕ) → c + e * 4194304 * 2 ≡ e * 8388608 + c
    back e c = omega arith

with_lead : (t : ℕ) → closest (2 ^ 52 + t) (2 ^ 29) ≡ 2 ^ 23 + closest t (2 ^ 29)
with_lead t = ap (λ (z : ℕ). closest z (2 ^ 29)) (swap t) ∙ closest-past t (2 ^ 29) (2 ^ 22) (pow_pos 29) ∙ back (closest t (2 ^ 29))
  where
    swap : (t : ℕ) → 4503599627370496 + t ≡ t + 4194304 * 2 * 536870912
    swap t = omega arith

    back : (c : ℕ) → c + 4194304 * 2 ≡ 8388608 + c
    back c = omega arith

pub kept : (y : Float) → T (fits binary64 y) → T (lt null y) → 896 < to_bits binary64 y / 2 ^ 52 → to_bits binary64 y / 2 ^ 52 < 1150
    → (of_bits binary64 (closest (to_bits binary64 y) (2 ^ 29) * 2 ^ 29) ≡ narrow_of y) × (closest (to_bits binary64 y) (2 ^ 29) * 2 ^ 29 < 2 ^ 63) × T (not (is_nan (narrow_of y)))
kept y F P a b =
    let B = to_bits binary64 y in
    let e = B / 2 ^ 52 in
    let t = B % 2 ^ 52 in
    let h : t < 2 ^ 52 = mod-lt B (pow_pos 52) in
    let s = seen binary64 y F P in
    let g = by_field y e t a b s.1 in
    let j = g.0 in
    let Q = closest (2 ^ 52 + t) (2 ^ 29) in
    let r : Rounds y (2 ^ 52 + t) 29 (e - 897) = large y e t h (from e j g.1 g.2) (to e j g.1 g.3) s.1 in
    let lo : 2 ^ 23 ≤ Q = subst (λ (z : ℕ). 2 ^ 23 ≤ z) (sym (with_lead t)) (least (closest t (2 ^ 29))) in
    let same : closest B (2 ^ 29) * 2 ^ 29 ≡ j * 2 ^ 52 + Q * 2 ^ 29 = ap (λ (z : ℕ). z * 2 ^ 29) (rounded B) ∙ join e j (closest t (2 ^ 29)) g.1 ∙ ap (λ (z : ℕ). j * 2 ^ 52 + z * 2 ^ 29) (sym (with_lead t)) in
    let wide : units binary64 false (Q * 2 ^ 29) j ≡ units binary32 false Q (e - 897) = widened Q j (e - 897) r.small g.3 (shift e j g.1 g.2) in
    let small : j * 2 ^ 52 + Q * 2 ^ 29 < 2 ^ 63 = room j Q g.3 r.small in (
      ap (λ (z : ℕ). of_bits binary64 z) same ∙ build binary64 (Q * 2 ^ 29) j (inr (up29 Q lo)) (down29 Q r.small) (top j g.3) ∙ wide ∙ r.gives,
      subst (λ (z : ℕ). z < 2 ^ 63) (sym same) small,
      number (narrow_of y) (Q * 2 ^ (e - 897)) (2 ^ 149) (subst (λ (z : Float). HasValue z false (Q * 2 ^ (e - 897)) (2 ^ 149)) r.gives (units_val binary32 false Q (e - 897) (under Q (e - 897) r.small (few e j g.1 g.3)))),
    )
  where
    from : (e j : ℕ) → e ≡ suc j → 896 ≤ j → 897 ≤ e
    from e j p q = omega arith

    to : (e j : ℕ) → e ≡ suc j → j ≤ 1148 → e ≤ 1150
    to e j p q = omega arith

    few : (e j : ℕ) → e ≡ suc j → j ≤ 1148 → e - 897 ≤ 252
    few e j p q = omega arith

    least : (c : ℕ) → 2 ^ 23 ≤ 2 ^ 23 + c
    least c = omega arith

    join : (e j c : ℕ) → e ≡ suc j → (e * 8388608 + c) * 536870912 ≡ j * 4503599627370496 + (8388608 + c) * 536870912
    join e j c p = omega arith

    shift : (e j : ℕ) → e ≡ suc j → 896 ≤ j → j + 29 ≡ (e - 897) + 925
    shift e j p q = omega arith

    room : (j Q : ℕ) → j ≤ 1148 → Q ≤ 2 ^ 24 → j * 4503599627370496 + Q * 536870912 < 9223372036854775808
    room j Q p q = omega arith

    up29 : (Q : ℕ) → 2 ^ 23 ≤ Q → 2 ^ 52 ≤ Q * 536870912
    up29 Q h = omega arith

    down29 : (Q : ℕ) → Q ≤ 2 ^ 24 → Q * 536870912 ≤ 2 ^ 53
    down29 Q h = omega arith

    top : (j : ℕ) → j ≤ 1148 → j ≤ 2045
    top j h = omega arith

    under : (Q k : ℕ) → Q ≤ 2 ^ 24 → k ≤ 252 → Q * 2 ^ k < 2 ^ 277
    under Q k p q = lt_of_le_of_lt (mul-le-mul_right (2 ^ k) p) (lt_of_le_of_lt (le_of_eq (sym (pow-add 2 24 k))) (pow-lt (more k q)))
      where
        more : (k : ℕ) → k ≤ 252 → 24 + k < 277
        more k h = omega arith

    number : (v : Float) (a c : ℕ) → HasValue v false a c → T (not (is_nan v))
    number nan a c v = absurd v
    number (inf s) a c v = absurd v
    number (fin s m e) a c v = unfold is_nan in tt

    -- the same value in the wider format
    widened : (Q j k : ℕ) → Q ≤ 2 ^ 24 → j ≤ 1148 → j + 29 ≡ k + 925 → units binary64 false (Q * 2 ^ 29) j ≡ units binary32 false Q k
    widened Q j k p q e =
        let K : k ≤ 252 = less j k q e in
        let u = Q * 2 ^ 29 * 2 ^ j in
        let x : HasValue (units binary64 false (Q * 2 ^ 29) j) false u (2 ^ 1074) = units_val binary64 false (Q * 2 ^ 29) j (lt_of_le_of_lt (mul-le-mul_right (2 ^ j) (down29 Q p)) (lt_of_le_of_lt (le_of_eq (sym (pow-add 2 53 j))) (pow-lt (far j q)))) in
        let y : HasValue (units binary32 false Q k) false (Q * 2 ^ k) (2 ^ 149) = units_val binary32 false Q k (under Q k p K) in
        same-value binary64 (units binary64 false (Q * 2 ^ 29) j) (units binary32 false Q k) false u (2 ^ 1074) (pow_pos 1074)
        (units-fits binary64 (Q * 2 ^ 29) j (down29 Q p)) (fits_widens (units binary32 false Q k) (units-fits binary32 Q k p)) x
        (revalue (units binary32 false Q k) false (Q * 2 ^ k) (2 ^ 149) u (2 ^ 1074) (pow_pos 149)
        (mul_assoc Q (2 ^ k) (2 ^ 1074) ∙ ap (λ (z : ℕ). Q * z) (pw k 1074 (29 + j + 149) (line j k e) ∙ pow-add 2 (29 + j) 149 ∙ ap (λ (z : ℕ). z * 2 ^ 149) (pow-add 2 29 j)) ∙ sym (mul_assoc Q (2 ^ 29 * 2 ^ j) (2 ^ 149)) ∙ ap (λ (z : ℕ). z * 2 ^ 149) (sym (mul_assoc Q (2 ^ 29) (2 ^ j))))
        y)
      where
        less : (j k : ℕ) → j ≤ 1148 → j + 29 ≡ k + 925 → k ≤ 252
        less j k h e = omega arith

        far : (j : ℕ) → j ≤ 1148 → 53 + j < 2098
        far j h = omega arith

        line : (j k : ℕ) → j + 29 ≡ k + 925 → k + 1074 ≡ 29 + j + 149
        line j k e = omega arith

-- ---- either sign
-- the sign is the highest digit
sign-fields : (f : Format) (e t : ℕ) → of_fields f true e t ≡ neg (of_fields f false e t)
unfolding of_fields neg
sign-fields f zero t = odd-neg t 0
  where
    odd-neg : (q k : ℕ) → odd (lib.Ieee.prec f) true q k (low f) ≡ neg (odd (lib.Ieee.prec f) false q k (low f))
    odd-neg zero k = unfold odd in refl
    odd-neg (suc q) k = unfold odd in refl
sign-fields f (suc x) t = go (eqb (suc x) (ones f)) (eqb t 0)
  where
    odd-neg : (q k : ℕ) → odd (lib.Ieee.prec f) true q k (low f) ≡ neg (odd (lib.Ieee.prec f) false q k (low f))
    odd-neg zero k = unfold odd in refl
    odd-neg (suc q) k = unfold odd in refl

    go : (a b : Bool) → cond a (cond b (inf true) nan) (odd (lib.Ieee.prec f) true (hid f + t) x (low f)) ≡ neg (cond a (cond b (inf false) nan) (odd (lib.Ieee.prec f) false (hid f + t) x (low f)))
    go true true = refl
    go true false = refl
    go false b = odd-neg (hid f + t) x

pub signed : (b : ℕ) → b < 2 ^ 63 → of_bits binary64 (2 ^ 63 + b) ≡ neg (of_bits binary64 b)
unfolding of_bits
signed b h =
    ap (λ (s : Bool). of_fields binary64 s ((2 ^ 63 + b) % 2 ^ 63 / 2 ^ 52) ((2 ^ 63 + b) % 2 ^ 52)) (lib.Ieee.Bits.is_true (leb (2 ^ 63) (2 ^ 63 + b)) (lib.Dec.le→leb (2 ^ 63) (2 ^ 63 + b) (more b)))
    ∙ (λ i. of_fields binary64 true (field b h i / 2 ^ 52) (digits b i))
    ∙ sign-fields binary64 (b % 2 ^ 63 / 2 ^ 52) (b % 2 ^ 52)
    ∙ ap (λ (s : Bool). neg (of_fields binary64 s (b % 2 ^ 63 / 2 ^ 52) (b % 2 ^ 52))) (sym (lib.Ieee.Bits.is_false (leb (2 ^ 63) b) (lib.Arith.lt→nleb (2 ^ 63) b h)))
  where
    more : (b : ℕ) → 9223372036854775808 ≤ 9223372036854775808 + b
    more b = omega arith

    field : (b : ℕ) → b < 2 ^ 63 → (2 ^ 63 + b) % 2 ^ 63 ≡ b % 2 ^ 63
    field b h = omega arith

    digits : (b : ℕ) → (2 ^ 63 + b) % 2 ^ 52 ≡ b % 2 ^ 52
    digits b = omega arith

-- what `narrow_normal` works out of a pattern b
abbrev pub cut29 : ℕ → ℕ
cut29 b = (b + (268435455 + b / 536870912 % 2)) / 536870912 * 536870912 % 18446744073709551616

pub record Normal (x : Float) : Type 0 where
  pub number : T (not (is_nan x))
  pub small : to_bits binary64 x + (268435455 + to_bits binary64 x / 536870912 % 2) < 2 ^ 64
  pub gives : of_bits binary64 (cut29 (to_bits binary64 x)) ≡ narrow_of x
  pub finite : T (not (is_nan (narrow_of x)))

narrow-fits : (x : Float) → T (fits binary32 (narrow_of x))
unfolding narrow_of
narrow-fits nan = lib.Ieee.Fits.nan-fits binary32
narrow-fits (inf s) = inf-fits binary32 s
narrow-fits (fin s m e) = round-fits binary32 s (m * up e) (down e)

pub fits-narrow : (x : Float) → Normal x → T (fits binary32 (of_bits binary64 (cut29 (to_bits binary64 x))) && not (is_nan (of_bits binary64 (cut29 (to_bits binary64 x)))))
fits-narrow x n = subst (λ (z : Float). T (fits binary32 z && not (is_nan z))) (sym n.gives) (and_i (fits binary32 (narrow_of x)) (not (is_nan (narrow_of x))) (narrow-fits x) n.finite)

pub no-nan-pattern : (x : Float) → Normal x → T (not (nan_bits binary64 (cut29 (to_bits binary64 x))))
no-nan-pattern x n = subst (λ (b : Bool). T (not b)) (sym (nan_bits_is binary64 (cut29 (to_bits binary64 x)) ∙ ap is_nan n.gives)) n.finite

-- no carry out of 64 bits
whole-cut : (b : ℕ) → b + (268435455 + b / 536870912 % 2) < 2 ^ 64 → cut29 b ≡ closest b (2 ^ 29) * 2 ^ 29
whole-cut b h = mod-eq_of_lt (lt_of_le_of_lt (less (b + (268435455 + b / 536870912 % 2))) h) ∙ ap (λ (z : ℕ). z * 2 ^ 29) (by-sum b)
  where
    less : (n : ℕ) → n / 536870912 * 536870912 ≤ n
    less n = omega arith

pub neg-number : (x : Float) → T (not (is_nan x)) → T (not (is_nan (neg x)))
unfolding is_nan neg
neg-number nan h = h
neg-number (inf s) h = tt
neg-number (fin s m e) h = tt

pub neg-neg : (x : Float) → neg (neg x) ≡ x
unfolding neg
neg-neg nan = refl
neg-neg (inf true) = refl
neg-neg (inf false) = refl
neg-neg (fin true m e) = refl
neg-neg (fin false m e) = refl

pub bits-neg : (x : Float) → T (lt x null) → to_bits binary64 x ≡ 2 ^ 63 + to_bits binary64 (neg x)
unfolding to_bits neg lt
bits-neg nan h = absurd h
bits-neg (inf true) h = refl
bits-neg (inf false) h = absurd h
bits-neg (fin false m e) h = absurd (nothing-below (m * up e * 1) (down e) (ltb→lt (m * up e * 1) (0 * 1 * down e) h))
bits-neg (fin true m e) h = go _ _
  where
    go : (a b : ℕ) → 2 ^ 63 + a + b ≡ 2 ^ 63 + (0 + a + b)
    go a b = omega arith

-- the field of a pattern b below 2 ^ 63 and of 2 ^ 63 + b
abbrev pub field : ℕ → ℕ
field b = b / 2 ^ 52 % 2048

above : (x : Float) → T (fits binary64 x) → T (lt null x) → 896 < field (to_bits binary64 x) → field (to_bits binary64 x) < 1150 → Normal x
above x F P a b =
    let s = (seen binary64 x F P).0 in
    let e = whole (to_bits binary64 x) s in
    let k = kept x F P (subst (λ (z : ℕ). 896 < z) e a) (subst (λ (z : ℕ). z < 1150) e b) in
    let h = room (to_bits binary64 x) s in
    record {
      number = above_no_nan x P;
      small = h;
      gives = ap (λ (z : ℕ). of_bits binary64 z) (whole-cut (to_bits binary64 x) h) ∙ k.0;
      finite = k.2;
    }
  where
    whole : (b : ℕ) → b < 2 ^ 63 → b / 2 ^ 52 % 2048 ≡ b / 2 ^ 52
    whole b h = omega arith

    room : (b : ℕ) → b < 2 ^ 63 → b + (268435455 + b / 536870912 % 2) < 2 ^ 64
    room b h = omega arith

below : (x : Float) → T (fits binary64 x) → T (lt x null) → 896 < field (to_bits binary64 x) → field (to_bits binary64 x) < 1150 → Normal x
below x F N a b =
    let y = neg x in
    let P = above-neg x N in
    let c = to_bits binary64 y in
    let e : to_bits binary64 x ≡ 2 ^ 63 + c = bits-neg x N in
    let f : field (to_bits binary64 x) ≡ c / 2 ^ 52 = ap field e ∙ whole c (seen binary64 y (neg-fits binary64 x F) P).0 in
    let k = kept y (neg-fits binary64 x F) P (subst (λ (z : ℕ). 896 < z) f a) (subst (λ (z : ℕ). z < 1150) f b) in
    let h : to_bits binary64 x + (268435455 + to_bits binary64 x / 536870912 % 2) < 2 ^ 64 = subst (λ (z : ℕ). z + (268435455 + z / 536870912 % 2) < 2 ^ 64) (sym e) (room c k.1) in
    record {
      number = subst (λ (z : Float). T (not (is_nan z))) (neg-neg x) (neg-number y (above_no_nan y P));
      small = h;
      gives =
          ap (λ (z : ℕ). of_bits binary64 z) (whole-cut (to_bits binary64 x) h ∙ ap (λ (z : ℕ). closest z (2 ^ 29) * 2 ^ 29) e ∙ past c)
          ∙ signed (closest c (2 ^ 29) * 2 ^ 29) k.1
          ∙ ap neg k.0
          ∙ neg-narrow x N;
      finite = subst (λ (z : Float). T (not (is_nan z))) (neg-narrow x N) (neg-number (narrow_of y) k.2);
    }
  where
    whole : (c : ℕ) → c < 2 ^ 63 → (2 ^ 63 + c) / 2 ^ 52 % 2048 ≡ c / 2 ^ 52
    whole c h = omega arith

    room : (c : ℕ) → closest c (2 ^ 29) * 2 ^ 29 < 2 ^ 63 → 9223372036854775808 + c + (268435455 + (9223372036854775808 + c) / 536870912 % 2) < 18446744073709551616
    room c h =
        let n = c + (268435455 + c / 536870912 % 2) in
        let q : n / 2 ^ 29 < 2 ^ 34 = lt_of_mul-lt-mul_right (2 ^ 29) (subst (λ (z : ℕ). z * 2 ^ 29 < 2 ^ 63) (sym (by-sum c)) h) in
        last c ((div-lt_iff_lt-mul {k = 2 ^ 29} {x = n} {y = 2 ^ 34} (pow_pos 29)).0 q)
      where
        halves : (c : ℕ) → (9223372036854775808 + c) / 536870912 % 2 ≡ c / 536870912 % 2
        halves c = omega arith

        go : (c p q : ℕ) → q ≡ p → c + (268435455 + p) < 9223372036854775808 → 9223372036854775808 + c + (268435455 + q) < 18446744073709551616
        go c p q e h = omega arith

        last : (c : ℕ) → c + (268435455 + c / 536870912 % 2) < 9223372036854775808 → 9223372036854775808 + c + (268435455 + (9223372036854775808 + c) / 536870912 % 2) < 18446744073709551616
        last c h = go c (c / 536870912 % 2) ((9223372036854775808 + c) / 536870912 % 2) (halves c) h

    past : (c : ℕ) → closest (2 ^ 63 + c) (2 ^ 29) * 2 ^ 29 ≡ 2 ^ 63 + closest c (2 ^ 29) * 2 ^ 29
    past c =
        ap (λ (z : ℕ). closest z (2 ^ 29) * 2 ^ 29) (swap c)
        ∙ ap (λ (z : ℕ). z * 2 ^ 29) (closest-past c (2 ^ 29) (2 ^ 33) (pow_pos 29))
        ∙ back (closest c (2 ^ 29))
      where
        swap : (c : ℕ) → 9223372036854775808 + c ≡ c + 8589934592 * 2 * 536870912
        swap c = omega arith

        back : (q : ℕ) → (q + 8589934592 * 2) * 536870912 ≡ 9223372036854775808 + q * 536870912
        back q = omega arith

pub zero_field : (s : Bool) → field (to_bits binary64 (fin s 0 (pos 0))) ≡ 0
unfolding to_bits
zero_field true = refl
zero_field false = refl

pub normal : (x : Float) → T (fits binary64 x) → T (not (is_nan x)) → 896 < field (to_bits binary64 x) → field (to_bits binary64 x) < 1150 → Normal x
normal x F n a b = go (lt null x) (lt x null) refl refl
  where
    none : (e : ℕ) → 896 < e → e ≡ 0 → ⊥
    none e h z = omega arith

    level-not : ((s : Bool) × (x ≡ fin s 0 (pos 0))) ⊎ (x ≡ nan) → ⊥
    level-not (inl z) = none (field (to_bits binary64 x)) a (ap (λ (v : Float). field (to_bits binary64 v)) z.1 ∙ zero_field z.0)
    level-not (inr z) = unfold is_nan in absurd (subst (λ (v : Float). T (not (is_nan v))) z n)

    go : (c d : Bool) → lt null x ≡ c → lt x null ≡ d → Normal x
    go true d p q = above x F (yes p) a b
    go false true p q = below x F (yes q) a b
    go false false p q = absurd (level-not (level binary64 x F (no p) (no q)))
