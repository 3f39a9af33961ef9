-- √A worked out apart from the coefficients: where a kind reads it, it is the root.
use Rattle.std.proofs.Common.{◌≡◌, refl, ap}
use Rattle.std.specs.Prelude.{Float}
use Rattle.sqrt.specs.Sqrt.{sqrt_of}
use Rattle.biquad.specs.declared.FilterKind.{FilterKind}
use Rattle.biquad.specs.declared.FilterKind.TheVariants.{Low, High, Band, Notch, Peak, LowShelf, HighShelf}
use Rattle.biquad.specs.declared.Response.{Response}
use Rattle.biquad.specs.Biquad.{root_of, normal, cookbook, coeffs_of}

cookbook-rooted : (k : FilterKind) (c α A : Float) → cookbook k c α (record { amp = A; root = root_of k A }) ≡ cookbook k c α (record { amp = A; root = sqrt_of A })
unfolding cookbook root_of
cookbook-rooted Low c α A = refl
cookbook-rooted High c α A = refl
cookbook-rooted Band c α A = refl
cookbook-rooted Notch c α A = refl
cookbook-rooted (Peak g) c α A = refl
cookbook-rooted (LowShelf g) c α A = refl
cookbook-rooted (HighShelf g) c α A = refl

pub rooted : (r : Response) (A fc : Float) → coeffs_of r (record { amp = A; root = root_of r.kind A }) fc ≡ coeffs_of r (record { amp = A; root = sqrt_of A }) fc
unfolding coeffs_of
rooted r A fc = ap normal (cookbook-rooted r.kind _ _ A)
