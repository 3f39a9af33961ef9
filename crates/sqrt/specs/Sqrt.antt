-- The square root of an f32, rounded to the nearest f32, by squares of whole numbers.
use Rattle.std.specs.Prelude.{ℕ, zero, suc, ◌+◌, ◌-◌, ◌*◌, ◌/◌, ◌^◌, ◌<◌, ◌≤◌, true, false, cond, nat_le, Float}
use Rattle.std.specs.Float.{nan, inf, fin, binary32}
use Rattle.std.specs.Float.Ieee.{up, down, size, units}

-- q is the root of n to the nearest whole number: q * q - q < n ≤ q * q + q, since the squares of q - 1/2 and q + 1/2 are q * q - q + 1/4 and q * q + q + 1/4. No such square is whole, so there is no tie.
-- `near-is` and `near-one` of proofs/Squares.antt prove that `nearest_root n` is one, and the only one.
abbrev pub IsRoot : ℕ → ℕ → Type 0
IsRoot n q = (n ≤ q * q + q) × (1 ≤ q → q * q < n + q)

-- The largest s with s * s ≤ n, for an n below 4 ^ d: the root of n / 4, twice, and one more where that is not too much.
unfoldable pub root_by : ℕ → ℕ → ℕ
root_by zero n = 0
root_by (suc d) n = let t = 2 * root_by d (n / 4) in cond (nat_le ((t + 1) * (t + 1)) n) (t + 1) t

-- the root of an n below 2 ^ 48, to the nearest whole number
unfoldable pub nearest_root : ℕ → ℕ
unfolding root_by
nearest_root n = let s = root_by 24 n in cond (nat_le n (s * s + s)) s (s + 1)

-- The root of w / 4 ^ 98, as an f32. With k pairs of binary digits dropped w has 47 or 48 digits, so its root has 24: all that an f32 keeps.
-- √w / 2 ^ 98 is √(w / 4 ^ k) * 2 ^ k / 2 ^ 98, and 2 ^ k / 2 ^ 98 is 2 ^ (k + 51) units of 2 ^ -149. An f32 has 24 digits, so what is dropped is zeros.
unfoldable pub root_of : ℕ → Float
unfolding size units nearest_root
root_of w = let k = (size w - 47) / 2 in units binary32 false (nearest_root (w / 2 ^ (2 * k))) (k + 51)

unfoldable pub sqrt_of : Float → Float
unfolding root_of
sqrt_of nan = nan
sqrt_of (inf true) = nan
sqrt_of (inf false) = inf false
sqrt_of (fin s zero e) = fin s zero e
sqrt_of (fin true (suc m) e) = nan
sqrt_of (fin false (suc m) e) = root_of (suc m * up e * 2 ^ 196 / down e)
