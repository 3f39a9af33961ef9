-- Each kind's unit over a block, from what the kernel of its kind leaves: how the kernel's state lies in what the record owns.
use Rattle.std.specs.Prelude.{◌≡◌, refl, ℕ, length, Float}
use Rattle.std.proofs.Common.{sym, ◌∙◌}
use Rattle.std.proofs.Math.Path.{ap}
use mathlib.Core.List.{List, [], ◌∷◌}
use Rattle.std.proofs.Math.ListN.{set}
use Rattle.std.specs.Float.Ieee.{nan}
use Rattle.tree.specs.Block.{tab}
use Rattle.block.specs.Iterate.{at, given, after}
use Rattle.control.specs.declared.Controls.{Controls}
use Rattle.dsl.specs.declared.DriveShape.{DriveShape}
use Rattle.biquad.specs.declared.Response.{Response}
use Rattle.filter_step.specs.declared.Filter.{Filter}
use Rattle.drive_step.specs.declared.Drive.{Drive}
use Rattle.proc_block.specs.Steps.{filter_step, drive_step_at, drive_plain_step, compress_step}
use Rattle.unit.specs.Processors.{filter_unit, filter_in, filter_cells, antialiased_unit, drive_in, drive_cells, plain_unit, compressor_in, compress_unit}
use Rattle.unit.specs.Block.{Ran, ran-part, ran-stateless}
use Rattle.tree.specs.Lists.{written}

module _ (c : Controls) {xs ys : List Float} where
  pub filter-ran : (r : Response) (v : List Float) {cs ds : List Float} {rs : List ℕ} (s : Filter) → length cs ≡ 11 → s ≡ filter_in cs
      → ys ≡ given (filter_step xs v r) s (length xs) → ds ≡ filter_cells (after (filter_step xs v r) s (length xs)) → Ran (filter_unit r.kind r.q r.sr) c (v ∷ []) xs cs rs ys ds rs
  unfolding filter_unit filter_step tab
  filter-ran r v {cs} {rs = rs} s l e y z =
      let own : cs ≡ filter_cells s = written nan 11 cs l ∙ ap filter_cells (sym e) in
      ran-part (λ f. (filter_cells f, rs)) (filter_step xs v r) (filter_unit r.kind r.q r.sr) c (v ∷ []) s (λ k h u. refl) (λ i. (own i, rs)) y (λ i. (z i, rs))

  pub antialiased-ran : (shape : DriveShape) (v : List Float) {cs ds : List Float} {rs : List ℕ} (s : Drive) → length cs ≡ 4 → s ≡ drive_in cs
      → ys ≡ given (drive_step_at xs v shape) s (length xs) → ds ≡ drive_cells (after (drive_step_at xs v shape) s (length xs)) → Ran (antialiased_unit shape) c (v ∷ []) xs cs rs ys ds rs
  unfolding antialiased_unit drive_step_at tab
  antialiased-ran shape v {cs} {rs = rs} s l e y z =
      let own : cs ≡ drive_cells s = written nan 4 cs l ∙ ap drive_cells (sym e) in
      ran-part (λ d. (drive_cells d, rs)) (drive_step_at xs v shape) (antialiased_unit shape) c (v ∷ []) s (λ k h u. refl) (λ i. (own i, rs)) y (λ i. (z i, rs))

  pub plain-ran : (shape : DriveShape) (v : List Float) {cs : List Float} {rs : List ℕ} → ys ≡ given (drive_plain_step xs v shape) tt (length xs) → Ran (plain_unit shape) c (v ∷ []) xs cs rs ys cs rs
  unfolding drive_plain_step
  plain-ran shape v y = ran-stateless _ (drive_plain_step xs v shape) c (v ∷ []) (λ k l. refl) y

  pub compress-ran : (threshold ratio : Float) {cs : List Float} {rs : List ℕ} (env : Float) → length cs ≡ 4
      → ys ≡ given (compress_step xs (compressor_in threshold ratio cs)) (at cs 0) (length xs) → env ≡ after (compress_step xs (compressor_in threshold ratio cs)) (at cs 0) (length xs)
      → Ran (compress_unit threshold ratio) c [] xs cs rs ys (set cs 0 env) rs
  unfolding compress_unit compress_step tab
  compress-ran threshold ratio {cs} {rs} env l y z =
      let own : cs ≡ at cs 0 ∷ at cs 1 ∷ at cs 2 ∷ at cs 3 ∷ [] = written nan 4 cs l in
      let left : set cs 0 env ≡ env ∷ at cs 1 ∷ at cs 2 ∷ at cs 3 ∷ [] = ap (λ l. set l 0 env) own in
      ran-part (λ e. (e ∷ at cs 1 ∷ at cs 2 ∷ at cs 3 ∷ [], rs)) (compress_step xs (compressor_in threshold ratio cs)) (compress_unit threshold ratio) c [] (at cs 0) (λ k h u. refl) (λ i. (own i, rs)) y
      (λ i. ((left ∙ ap (λ e. e ∷ at cs 1 ∷ at cs 2 ∷ at cs 3 ∷ []) z) i, rs))
