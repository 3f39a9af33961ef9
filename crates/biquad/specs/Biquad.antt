-- The filters of the RBJ cookbook (Robert Bristow-Johnson, Cookbook formulae for audio EQ biquad filter coefficients), in f32. The rounding order is the Rust's:
-- A + 1 and A - 1 are rounded first, sums go from the left, and a coefficient is divided by a0 last.
use Rattle.std.specs.Prelude.{pos, Float}
use Rattle.std.specs.Float.{binary32}
use Rattle.std.specs.Float.Ieee.{neg, of_bits, of_int}
use Rattle.float.specs.Order.{max_of, clamp_of}
use Rattle.float.specs.Single.{◌⊕◌, ◌⊖◌, ◌⊗◌, ◌⊘◌, zero, one, two, tau}
use Rattle.sqrt.specs.Sqrt.{sqrt_of}
use Rattle.dsp.specs.Math.{sine, cosine, power}
use Rattle.biquad.specs.declared.FilterKind.{FilterKind}
use Rattle.biquad.specs.declared.FilterKind.TheVariants.{Low, High, Band, Notch, Peak, LowShelf, HighShelf}
use Rattle.biquad.specs.declared.Response.{Response}
use Rattle.biquad.specs.declared.Amplitude.{Amplitude}
use Rattle.biquad.specs.declared.Coefficients.{Coefficients}
use Rattle.biquad.specs.declared.Six.{Six}

-- the cookbook's six, before a0 is divided out
abbrev pub six : Float → Float → Float → Float → Float → Float → Six
six b0 b1 b2 a0 a1 a2 = record { b0 = b0; b1 = b1; b2 = b2; a0 = a0; a1 = a1; a2 = a2 }

abbrev minus_two : Float
minus_two = neg two

-- the gain of a peak or a shelf, in dB, as the cookbook's A = 10 ^ (dBgain / 40); the others have none
unfoldable pub gain_of : FilterKind → Float
gain_of Low = one
gain_of High = one
gain_of Band = one
gain_of Notch = one
gain_of (Peak g) = power (of_bits binary32 0x4120_0000) (g ⊘ of_bits binary32 0x4220_0000)
gain_of (LowShelf g) = power (of_bits binary32 0x4120_0000) (g ⊘ of_bits binary32 0x4220_0000)
gain_of (HighShelf g) = power (of_bits binary32 0x4120_0000) (g ⊘ of_bits binary32 0x4220_0000)

-- √A of a shelf. The others read none: they have A in its place.
unfoldable pub root_of : FilterKind → Float → Float
root_of Low A = A
root_of High A = A
root_of Band A = A
root_of Notch A = A
root_of (Peak g) A = A
root_of (LowShelf g) A = sqrt_of A
root_of (HighShelf g) A = sqrt_of A

-- ---- the cookbook's table, for c = cos w0 and alpha, of a peak also A, of a shelf also A and √A
abbrev pub lowpass : Float → Float → Six
lowpass c α = six ((one ⊖ c) ⊘ two) (one ⊖ c) ((one ⊖ c) ⊘ two) (one ⊕ α) (minus_two ⊗ c) (one ⊖ α)

abbrev pub highpass : Float → Float → Six
highpass c α = six ((one ⊕ c) ⊘ two) (neg (one ⊕ c)) ((one ⊕ c) ⊘ two) (one ⊕ α) (minus_two ⊗ c) (one ⊖ α)

-- constant 0 dB peak gain
abbrev pub bandpass : Float → Float → Six
bandpass c α = six α zero (neg α) (one ⊕ α) (minus_two ⊗ c) (one ⊖ α)

abbrev pub notched : Float → Float → Six
notched c α = six one (minus_two ⊗ c) one (one ⊕ α) (minus_two ⊗ c) (one ⊖ α)

abbrev pub peaking : Float → Float → Float → Six
peaking c α A = six (one ⊕ α ⊗ A) (minus_two ⊗ c) (one ⊖ α ⊗ A) (one ⊕ α ⊘ A) (minus_two ⊗ c) (one ⊖ α ⊘ A)

-- with s = 2 √A alpha
abbrev pub low_shelf : Float → Float → Amplitude → Six
low_shelf c α g =
    let A = g.amp in
    let s = two ⊗ g.root ⊗ α in
    six
    (A ⊗ (A ⊕ one ⊖ (A ⊖ one) ⊗ c ⊕ s))
    (two ⊗ A ⊗ (A ⊖ one ⊖ (A ⊕ one) ⊗ c))
    (A ⊗ (A ⊕ one ⊖ (A ⊖ one) ⊗ c ⊖ s))
    (A ⊕ one ⊕ (A ⊖ one) ⊗ c ⊕ s)
    (minus_two ⊗ (A ⊖ one ⊕ (A ⊕ one) ⊗ c))
    (A ⊕ one ⊕ (A ⊖ one) ⊗ c ⊖ s)

abbrev pub high_shelf : Float → Float → Amplitude → Six
high_shelf c α g =
    let A = g.amp in
    let s = two ⊗ g.root ⊗ α in
    six
    (A ⊗ (A ⊕ one ⊕ (A ⊖ one) ⊗ c ⊕ s))
    (minus_two ⊗ A ⊗ (A ⊖ one ⊕ (A ⊕ one) ⊗ c))
    (A ⊗ (A ⊕ one ⊕ (A ⊖ one) ⊗ c ⊖ s))
    (A ⊕ one ⊖ (A ⊖ one) ⊗ c ⊕ s)
    (two ⊗ (A ⊖ one ⊖ (A ⊕ one) ⊗ c))
    (A ⊕ one ⊖ (A ⊖ one) ⊗ c ⊖ s)

unfoldable pub cookbook : FilterKind → Float → Float → Amplitude → Six
cookbook Low c α g = lowpass c α
cookbook High c α g = highpass c α
cookbook Band c α g = bandpass c α
cookbook Notch c α g = notched c α
cookbook (Peak dB) c α g = peaking c α g.amp
cookbook (LowShelf dB) c α g = low_shelf c α g
cookbook (HighShelf dB) c α g = high_shelf c α g

abbrev pub normal : Six → Coefficients
normal k = record { b0 = k.b0 ⊘ k.a0; b1 = k.b1 ⊘ k.a0; b2 = k.b2 ⊘ k.a0; a1 = k.a1 ⊘ k.a0; a2 = k.a2 ⊘ k.a0 }

-- w0 at the rate srf: the cutoff is kept from 20 Hz to 100 Hz below half the rate. A NaN cutoff passes.
unfoldable pub angle_of : Float → Float → Float
angle_of fc srf =
    let twenty = of_bits binary32 0x41a0_0000 in
    let f = clamp_of fc twenty (max_of (srf ⊘ two ⊖ of_bits binary32 0x42c8_0000) twenty) in
    tau ⊗ f ⊘ srf

-- alpha of sin w0: q is kept from 0.05 up
abbrev pub alpha_of : Float → Float → Float
alpha_of sin q = sin ⊘ (two ⊗ max_of q (of_bits binary32 0x3d4c_cccd))

-- with A and √A at hand
unfoldable pub coeffs_of : Response → Amplitude → Float → Coefficients
coeffs_of r g fc = let w0 = angle_of fc (of_int binary32 (pos r.sr)) in normal (cookbook r.kind (cosine w0) (alpha_of (sine w0) r.q) g)

unfoldable pub biquad_of : Response → Float → Coefficients
biquad_of r fc = let A = gain_of r.kind in coeffs_of r (record { amp = A; root = sqrt_of A }) fc
