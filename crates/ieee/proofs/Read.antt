-- A float above zero by its bit pattern, and what its negation is.
use Rattle.std.proofs.Common.{◌≡◌, ℕ, zero, suc, ◌+◌, ◌-◌, ◌*◌, ◌/◌, ◌%◌, ◌^◌, ◌<◌, ◌≤◌, Bool, true, false, cond, not, T, eqb, ltb, leb, ◌⊎◌, ℤ, pos, sym, refl, ap, ◌∙◌, subst, inl, inr, mod-eq_of_lt, zero-lt-suc, mul-pos, arith, eqb→eq, ltb→lt, lt→ltb, nltb→le, T_not}
use lib.Dec.{nleb→lt}
use lib.Bits.{bit_and, and_mask}
use lib.Ieee.{Float, nan, inf, fin, Format, prec, emax, low, up, down, hid, ones, top, odd, units, round, neg, lt, fits, is_nan, of_fields, of_bits, to_bits}
use lib.Ieee.Fits.{up_pos, eq→eqb, round_is}
use lib.Ieee.Bits.{of_bits-to_bits}
use lib.Ieee.Exact.{HasValue, odd_sign}
use Rattle.ieee.proofs.Tests.{null, no}

pub above_no_nan : (x : Float) → T (lt null x) → T (not (is_nan x))
unfolding lt is_nan
above_no_nan nan h = absurd h
above_no_nan (inf s) h = tt
above_no_nan (fin s m e) h = tt

-- ---- a value above zero by its pattern, an exponent's field e and digits t: the field is 0; or it is j + 1, and the value is the digits under a leading one, times 2 ^ j units; or it is an infinity
abbrev pub Seen : Format → Float → ℕ → ℕ → Type 0
Seen f x e t =
    ((e ≡ 0) × HasValue x false (t * 2 ^ 0) (2 ^ low f))
    ⊎ (((j : ℕ) × (e ≡ ones f → ⊥) × (e ≡ suc j) × HasValue x false ((hid f + t) * 2 ^ j) (2 ^ low f)) ⊎ ((e ≡ ones f) × (x ≡ inf false)))

sign_of : (v : Float) (s : Bool) (a c : ℕ) → T (lt null v) → HasValue v s a c → s ≡ false
unfolding lt
sign_of nan s a c p h = absurd p
sign_of (inf t) s a c p h = absurd h
sign_of (fin true m e) s a c p h = absurd p
sign_of (fin false m e) s a c p h = sym h.0

clear : (v : Float) (s : Bool) (a c : ℕ) → T (lt null v) → HasValue v s a c → HasValue v false a c
clear v s a c p h = subst (λ (k : Bool). HasValue v k a c) (sign_of v s a c p h) h

plus : (s : Bool) → T (lt null (inf s)) → s ≡ false
unfolding lt
plus true h = absurd h
plus false h = refl

see : (f : Format) (s : Bool) (e t : ℕ) → T (lt null (of_fields f s e t)) → (s ≡ false) × Seen f (of_fields f s e t) e t
unfolding of_fields
see f s zero t h =
    let v = odd (prec f) s t 0 (low f) in
    let o = odd_sign (prec f) s t 0 (low f) in
    (sign_of v s (t * 2 ^ 0) (2 ^ low f) h o, inl (refl, clear v s (t * 2 ^ 0) (2 ^ low f) h o))
see f s (suc j) t h = go (eqb (suc j) (ones f)) (eqb t 0) (eqb→eq (suc j) (ones f)) (λ n e. T_not (eqb (suc j) (ones f)) n (eq→eqb e)) h
  where
    go : (a b : Bool) → (T a → suc j ≡ ones f) → (T (not a) → suc j ≡ ones f → ⊥) → T (lt null (cond a (cond b (inf s) nan) (odd (prec f) s (hid f + t) j (low f))))
        → (s ≡ false) × Seen f (cond a (cond b (inf s) nan) (odd (prec f) s (hid f + t) j (low f))) (suc j) t
    go true true e n h = (plus s h, inr (inr (e tt, ap inf (plus s h))))
    go true false e n h = unfold lt in absurd h
    go false b e n h =
        let v = odd (prec f) s (hid f + t) j (low f) in
        let o = odd_sign (prec f) s (hid f + t) j (low f) in
        (sign_of v s ((hid f + t) * 2 ^ j) (2 ^ low f) h o, inr (inl (j, n tt, refl, clear v s ((hid f + t) * 2 ^ j) (2 ^ low f) h o)))

of_bits_is : (f : Format) (b : ℕ) → of_bits f b ≡ of_fields f (leb (top f) b) (b % top f / hid f) (b % hid f)
unfolding of_bits
of_bits_is f b = refl

pub seen : (f : Format) (x : Float) → T (fits f x) → T (lt null x) → (to_bits f x < top f) × Seen f x (to_bits f x / hid f) (to_bits f x % hid f)
seen f x F h =
    let b = to_bits f x in
    let is : x ≡ of_fields f (leb (top f) b) (b % top f / hid f) (b % hid f) = sym (of_bits-to_bits f x F) ∙ of_bits_is f b in
    let r = see f (leb (top f) b) (b % top f / hid f) (b % hid f) (subst (λ (v : Float). T (lt null v)) is h) in
    let l : b < top f = nleb→lt (top f) b (no r.0) in
    let e : b % top f ≡ b = mod-eq_of_lt l in
    (l, subst (λ (z : ℕ). Seen f x (z / hid f) (b % hid f)) e (subst (λ (v : Float). Seen f v (b % top f / hid f) (b % hid f)) (sym is) r.1))

-- the digits by a mask
pub low-are : (k b : ℕ) → bit_and b (2 ^ k - 1) ≡ b % 2 ^ k
low-are k b = and_mask b k

-- ---- signs
neg-odd : (d q k l : ℕ) → neg (odd d false q k l) ≡ odd d true q k l
unfolding neg odd
neg-odd d zero k l = refl
neg-odd d (suc q) k l = refl

neg-units : (f : Format) (q k : ℕ) → neg (units f false q k) ≡ units f true q k
unfolding units neg
neg-units f q k = go (ltb (q * 2 ^ k) (2 ^ (low f + suc (emax f))))
  where
    go : (b : Bool) → neg (cond b (odd (suc (prec f)) false q k (low f)) (inf false)) ≡ cond b (odd (suc (prec f)) true q k (low f)) (inf true)
    go true = neg-odd (suc (prec f)) q k (low f)
    go false = refl

pub neg-round : (f : Format) (a c : ℕ) → neg (round f false a c) ≡ round f true a c
neg-round f a c = ap neg (round_is f false a c) ∙ neg-units f _ _ ∙ sym (round_is f true a c)

pub nothing-below : (a d : ℕ) → a < 0 * 1 * d → ⊥
nothing-below a d h = omega arith

pub above-neg : (x : Float) → T (lt x null) → T (lt null (neg x))
unfolding lt neg
above-neg nan h = absurd h
above-neg (inf true) h = tt
above-neg (inf false) h = absurd h
above-neg (fin false m e) h = absurd (nothing-below (m * up e * 1) (down e) (ltb→lt (m * up e * 1) (0 * 1 * down e) h))
above-neg (fin true m e) h = lt→ltb (0 * 1 * down e) (m * up e * 1) (go (m * up e * 1) (down e) (ltb→lt 0 (m * up e * 1 + 0 * 1 * down e) h))
  where
    go : (a d : ℕ) → 0 < a + 0 * 1 * d → 0 * 1 * d < a
    go a d h = omega arith

-- ---- neither above nor below zero: a zero or a NaN
pub level : (f : Format) (x : Float) → T (fits f x) → T (not (lt null x)) → T (not (lt x null)) → ((s : Bool) × (x ≡ fin s 0 (pos 0))) ⊎ (x ≡ nan)
level f nan F a b = inr refl
level f (inf true) F a b = unfold lt in absurd b
level f (inf false) F a b = unfold lt in absurd a
level f (fin s zero e) F a b = inl (s, ap (λ (g : ℤ). fin s zero g) (Rattle.ieee.proofs.Value.zero_exp f s e F))
level f (fin true (suc m) e) F a b = absurd (go (suc m * up e) (down e) (mul-pos (zero-lt-suc m) (up_pos e)) (nltb→le 0 (suc m * up e * 1 + 0 * 1 * down e) (unfold lt in b)))
  where
    go : (a d : ℕ) → 0 < a → a * 1 + 0 * 1 * d ≤ 0 → ⊥
    go a d p h = omega arith
level f (fin false (suc m) e) F a b = absurd (go (suc m * up e) (down e) (mul-pos (zero-lt-suc m) (up_pos e)) (nltb→le (0 * 1 * down e) (suc m * up e * 1) (unfold lt in a)))
  where
    go : (a d : ℕ) → 0 < a → a * 1 ≤ 0 * 1 * d → ⊥
    go a d p h = omega arith
