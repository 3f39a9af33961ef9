-- Each kind's unit over a block, from what the kernel of its kind leaves: how the kernel's state lies in what the record owns.
use Rattle.std.specs.Prelude.{◌≡◌, ℕ, length, Float}
use Rattle.std.proofs.Math.Path.{refl, ap}
use mathlib.Core.List.{List, [], ◌∷◌}
use Rattle.block.specs.Iterate.{at, given, after}
use Rattle.control.specs.declared.Controls.{Controls}
use Rattle.proc.specs.Effects.{tremolo_of}
use Rattle.proc_block.specs.Steps.{gain_step, tremolo_step}
use Rattle.modal_block.specs.Modal.{modal_step}
use Rattle.unit.specs.Processors.{gain_unit, tremolo_unit, modal_unit}
use Rattle.unit.specs.Block.{Ran, moment-position, ran-part, ran-stateless}

module _ (c : Controls) {xs ys : List Float} where
  pub gain-ran : (v : List Float) {cs : List Float} {rs : List ℕ} → ys ≡ given (gain_step xs v) tt (length xs) → Ran gain_unit c (v ∷ []) xs cs rs ys cs rs
  unfolding gain_step
  gain-ran v y = ran-stateless _ (gain_step xs v) c (v ∷ []) (λ k l. refl) y

  pub tremolo-ran : (rate depth srf : Float) {cs : List Float} {rs : List ℕ} → ys ≡ given (tremolo_step xs rate depth srf c.position) tt (length xs) → Ran (tremolo_unit rate depth srf) c [] xs cs rs ys cs rs
  unfolding tremolo_step
  tremolo-ran rate depth srf y = ran-stateless _ (tremolo_step xs rate depth srf c.position) c [] (λ k l. ap (λ t. tremolo_of rate depth srf t (at xs k)) (moment-position k c)) y

  -- the kernel's state is what the record owns
  pub modal-ran : (mix : Float) (n : ℕ) {cs ds : List Float} {rs : List ℕ} → ys ≡ given (modal_step xs mix n) cs (length xs) → ds ≡ after (modal_step xs mix n) cs (length xs) → Ran (modal_unit mix n) c [] xs cs rs ys ds rs
  unfolding modal_unit modal_step
  modal-ran mix n {cs} {rs = rs} y z = ran-part (λ cs. (cs, rs)) (modal_step xs mix n) (modal_unit mix n) c [] cs (λ k h u. refl) refl y (λ i. (z i, rs))
