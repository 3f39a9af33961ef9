-- The passes of tanh's antiderivative at 0, where they begin.
use Rattle.std.proofs.Common.{◌≡◌, refl, sym, ap, ◌∙◌}
use Rattle.std.specs.Prelude.{Float}
use Rattle.std.specs.Float.{binary32}
use Rattle.std.specs.Float.Ieee.{of_bits, neg, add, sub, mul, round}
use Rattle.float.specs.Order.{abs_of}
use Rattle.float.specs.Single.{◌⊕◌, ◌⊖◌, ◌⊗◌, zero, one}
use Rattle.dsp.specs.Math.{exponential}
use Rattle.dsp.specs.Zero.{exponential-zero, logarithm1p-one}
use Rattle.drive.specs.Drive.{minus_two, decay_of, ln_cosh}

argument : neg zero ≡ minus_two ⊗ abs_of zero
unfolding abs_of of_bits neg mul round
argument = refl

pub decay_zero : one ≡ decay_of zero
decay_zero = sym exponential-zero ∙ ap exponential argument

sum : zero ≡ abs_of zero ⊕ of_bits binary32 0x3f31_7218 ⊖ of_bits binary32 0x3f31_7218
unfolding abs_of of_bits neg add sub round
sum = refl

pub ln_cosh_zero : zero ≡ ln_cosh zero one
ln_cosh_zero = sum ∙ ap (λ (l : Float). abs_of zero ⊕ l ⊖ of_bits binary32 0x3f31_7218) (sym logarithm1p-one)
