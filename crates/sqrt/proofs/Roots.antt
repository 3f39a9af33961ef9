-- std's root of a float is `sqrt_of`.
use Rattle.std.proofs.Common.{◌≡◌, ℕ, zero, suc, ◌+◌, ◌-◌, ◌*◌, ◌/◌, ◌^◌, ◌<◌, ◌≤◌, true, false, T, ℤ, pos, negsuc, sym, refl, ap, ◌∙◌, mul_assoc, mul_right_comm, mul-one, mul-div_cancel, zero-lt-suc, pow-add, arith}
use lib.Ieee.{Float, nan, inf, fin, binary32, up, down, round, root_twice, sqrt, fits}
use lib.Ieee.Fits.{down_pos}
use Rattle.ieee.proofs.Build.{pw}
use Rattle.ieee.proofs.Value.{fits_lt, zero_exp, den-power}
use Rattle.sqrt.specs.Sqrt.{sqrt_of, root_of}
use Rattle.sqrt.proofs.Scaled.{one-root}

-- m * 2 ^ e as m * 2 ^ j units of 2 ^ -149
placed : (s : _) (m : ℕ) (e : ℤ) → T (fits binary32 (fin s m e)) → (j : ℕ) × (m * up e * 2 ^ 149 ≡ m * 2 ^ j * down e)
placed s m (pos a) F = (a + 149, mul_assoc m (2 ^ a) (2 ^ 149) ∙ ap (λ (z : ℕ). m * z) (sym (pow-add 2 a 149)) ∙ sym (mul-one (m * 2 ^ (a + 149))))
placed s m (negsuc a) F =
    let k = den-power binary32 s m (negsuc a) F in (
      149 - k.0,
      ap (λ (z : ℕ). z * 2 ^ 149) (mul-one m) ∙ ap (λ (z : ℕ). m * z) (sym (pw (149 - k.0) k.0 149 (go k.0 k.2))) ∙ sym (mul_assoc m (2 ^ (149 - k.0)) (2 ^ k.0)) ∙ ap (λ (z : ℕ). m * 2 ^ (149 - k.0) * z) (sym k.1),
    )
  where
    go : (k : ℕ) → k ≤ 149 → 149 - k + k ≡ 149
    go k h = omega arith

-- n / d by way of its value a in units
quotient : (n d a p q : ℕ) → 0 < d → q ≡ 149 + p → n * 2 ^ 149 ≡ a * d → n * 2 ^ q / d ≡ a * 2 ^ p
quotient n d a p q D e h =
    ap (λ (z : ℕ). n * z / d) (sym (pw 149 p q (sym e)))
    ∙ ap (λ (z : ℕ). z / d) (sym (mul_assoc n (2 ^ 149) (2 ^ p)) ∙ ap (λ (z : ℕ). z * 2 ^ p) h ∙ mul_right_comm a d (2 ^ p))
    ∙ mul-div_cancel (a * 2 ^ p) D

pub sqrt-is : (x : Float) → T (fits binary32 x) → sqrt binary32 x ≡ sqrt_of x
unfolding sqrt sqrt_of
sqrt-is nan F = refl
sqrt-is (inf true) F = refl
sqrt-is (inf false) F = refl
sqrt-is (fin s zero e) F = ap (λ (z : ℤ). fin s zero z) (sym (zero_exp binary32 s e F))
sqrt-is (fin true (suc m) e) F = refl
sqrt-is (fin false (suc m) e) F =
    let j = placed false (suc m) e F in
    ap (λ (z : ℕ). round binary32 false (root_twice z) (2 ^ 2272)) (quotient (suc m * up e) (down e) (suc m * 2 ^ j.0) 4393 4542 (down_pos e) refl j.1)
    ∙ one-root (suc m) j.0 (zero-lt-suc m) (fits_lt binary32 false (suc m) e F)
    ∙ ap root_of (sym (quotient (suc m * up e) (down e) (suc m * 2 ^ j.0) 47 196 (down_pos e) refl j.1))
