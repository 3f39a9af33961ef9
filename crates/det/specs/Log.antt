-- ln: x = m * 2 ^ k, so ln x = k ln 2 + ln m, and ln m by fdlibm's series. Then pow and log10.
use Rattle.std.specs.Prelude.{◌-◌, true, false, cond, ◌||◌, List, [], ◌∷◌, ℤ, pos, neg_ℤ, ◌+ℤ◌, Float}
use Rattle.std.specs.Float.{nan, inf, fin, binary64}
use Rattle.std.specs.Float.Ieee.{size, lt, eq, is_nan, of_int}
use Rattle.double.specs.Double.{◌⊕◌, ◌⊖◌, ◌⊗◌, ◌⊘◌, bits, zero, half, one, two, horner}
use Rattle.exp.specs.Exp.{ln2_hi, ln2_lo, exp_of}

-- k and m of an x above zero: x = m * 2 ^ k with 1 ≤ m < 2. An infinity counts as 2 ^ 1024, which its bit pattern would be.
unfoldable pub exponent_of : Float → ℤ
exponent_of nan = pos 0
exponent_of (inf s) = pos 1024
exponent_of (fin s m e) = e +ℤ pos (size m - 1)

unfoldable pub mantissa_of : Float → Float
mantissa_of nan = nan
mantissa_of (inf s) = fin false 1 (pos 0)
mantissa_of (fin s m e) = fin false m (neg_ℤ (pos (size m - 1)))

-- LG2, LG4, LG6: 3.999999999940941908e-01, 2.222219843214978396e-01, 1.531383769920937332e-01
abbrev pub ln_even : List Float
ln_even = bits 0x3fd9_9999_9997_fa04 ∷ bits 0x3fcc_71c5_1d8e_78af ∷ bits 0x3fc3_9a09_d078_c69f ∷ []

-- LG1, LG3, LG5, LG7: 6.666666666666735130e-01, 2.857142874366239149e-01, 1.818357216161805012e-01, 1.479819860511658591e-01
abbrev pub ln_odd : List Float
ln_odd = bits 0x3fe5_5555_5555_5593 ∷ bits 0x3fd2_4924_9422_9359 ∷ bits 0x3fc7_4664_96cb_03de ∷ bits 0x3fc2_f112_df3e_5244 ∷ []

-- ln (m * 2 ^ k) for an m near 1
unfoldable pub ln_series : Float → Float → Float
ln_series m k =
    let f = m ⊖ one in
    let s = f ⊘ (two ⊕ f) in
    let z = s ⊗ s in
    let w = z ⊗ z in
    let r = z ⊗ horner w ln_odd ⊕ w ⊗ horner w ln_even in
    let hfsq = half ⊗ f ⊗ f in
    k ⊗ ln2_hi ⊕ (f ⊖ (hfsq ⊖ (s ⊗ (hfsq ⊕ r) ⊕ k ⊗ ln2_lo)))

-- √2, 1.4142135623730951
abbrev pub sqrt2 : Float
sqrt2 = bits 0x3ff6_a09e_667f_3bcd

-- ln (m * 2 ^ (k + scale)): m is brought into [√2 / 2, √2] first
unfoldable pub ln_folded : Float → ℤ → Float → Float
ln_folded m k scale = cond (lt sqrt2 m) (ln_series (m ⊗ half) (of_int binary64 (k +ℤ pos 1) ⊕ scale)) (ln_series m (of_int binary64 k ⊕ scale))

-- the smallest normal double, 2 ^ -1022; what a subnormal one is multiplied by, 1.84467440737095e19, which is not quite 2 ^ 64; -64
abbrev pub min_positive : Float
min_positive = bits 0x0010_0000_0000_0000

abbrev pub subnormal_scale : Float
subnormal_scale = bits 0x43ef_ffff_ffff_ffe7

abbrev pub scale_k : Float
scale_k = bits 0xc050_0000_0000_0000

unfoldable pub ln_of : Float → Float
ln_of x =
    let y = x ⊗ subnormal_scale in
    cond (is_nan x || lt x zero) nan
    (cond (eq x zero) (inf true)
    (cond (lt x min_positive) (ln_folded (mantissa_of y) (exponent_of y) scale_k) (ln_folded (mantissa_of x) (exponent_of x) zero)))

-- e ^ (y ln x). Anything to the power 0 is 1, and 0 to another is 0 or an infinity.
unfoldable pub pow_of : Float → Float → Float
pow_of x y = cond (eq y zero) one (cond (eq x zero) (cond (lt zero y) zero (inf false)) (cond (lt x zero) nan (exp_of (y ⊗ ln_of x))))

abbrev pub ten : Float
ten = bits 0x4024_0000_0000_0000

unfoldable pub log10_of : Float → Float
log10_of x = ln_of x ⊘ ln_of ten
