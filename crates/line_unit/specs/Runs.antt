-- Each kind's unit over a block, from what the kernel of its kind leaves: how the kernel's state lies in what the record owns.
use Rattle.std.specs.Prelude.{◌≡◌, ℕ, ◌<◌, Float}
use Rattle.std.proofs.Math.Path.{refl, ap}
use Rattle.std.proofs.Common.{sym, ◌∙◌}
use mathlib.Core.List.{List, [], ◌∷◌}
use Rattle.std.proofs.Math.ListN.{length, set, length-set}
use Rattle.tree.specs.Block.{tab}
use Rattle.block.specs.Iterate.{at, given, after, part-while, word}
use Rattle.control.specs.declared.Controls.{Controls}
use Rattle.line_step.specs.Line.{delay_of, next_place, chorus_read, chorus_of}
use Rattle.line_block.specs.Steps.{delay_step, chorus_step}
use Rattle.lines.specs.Lines.{reverb_lines}
use Rattle.reverb_block.specs.Reverb.{reverb_of, reverb_step}
use Rattle.unit.specs.Own.{Own, Ugen}
use Rattle.unit.specs.Processors.{delay_unit, chorus_unit, reverb_unit}
use Rattle.unit.specs.Block.{Ran, steps, moment-position, ran-part}
use Rattle.tree.specs.Lists.{written}

-- a kernel's state of which something holds that its steps keep
pub ran-while : {S : Type 0} (φ : S → Own) (Inv : S → Type 0) (g : ℕ → S → Float × S) (f : Ugen) (c : Controls) (bufs : List (List Float)) {xs cs : List Float} {rs : List ℕ} {ys ds : List Float} {ss : List ℕ} (s : S) → Inv s
    → ((k : ℕ) → k < length xs → (u : S) → Inv u → Inv (g k u).1 × (steps f c bufs xs k (φ u) ≡ ((g k u).0, φ (g k u).1)))
    → ◌≡◌ {A = Own} (cs, rs) (φ s) → ys ≡ given g s (length xs) → ◌≡◌ {A = Own} (ds, ss) (φ (after g s (length xs))) → Ran f c bufs xs cs rs ys ds ss
ran-while φ Inv g f c bufs {xs} s i e p y z =
    let r = part-while φ g (steps f c bufs xs) Inv (length xs) e s i in
    record {
      samples = y ∙ sym r.0 ∙ ap (λ (o : Own). given (steps f c bufs xs) o (length xs)) (sym p);
      state = z ∙ sym r.1 ∙ ap (λ (o : Own). after (steps f c bufs xs) o (length xs)) (sym p);
    }

-- a line, and its place in the one register
abbrev pub Ring : Type 0
Ring = List Float × ℕ

abbrev pub laid : Ring → Own
laid s = (s.0, s.1 ∷ [])

module _ (c : Controls) {xs ys : List Float} where
  -- ---- a line, whose length stays
  pub ring-ran : (f : Ugen) {cs ds : List Float} {rs : List ℕ} (g : ℕ → Ring → Float × Ring) (w : ℕ) → length rs ≡ 1
      → ((k : ℕ) → k < length xs → (u : Ring) → length u.0 ≡ length cs → (length (g k u).1.0 ≡ length cs) × (steps f c [] xs k (laid u) ≡ ((g k u).0, laid (g k u).1)))
      → ys ≡ given g (cs, word rs 0) (length xs) → ◌≡◌ {A = Ring} (ds, w) (after g (cs, word rs 0) (length xs)) → Ran f c [] xs cs rs ys ds (set rs 0 w)
  unfolding tab
  ring-ran f {cs} {ds} {rs} g w l e y z =
      let own : rs ≡ word rs 0 ∷ [] = written 0 1 rs l in
      let left : set rs 0 w ≡ w ∷ [] = ap (λ l. set l 0 w) own in
      ran-while laid (λ u. length u.0 ≡ length cs) g f c [] (cs, word rs 0) refl e (λ i. (cs, own i)) y ((λ i. (ds, left i)) ∙ ap laid z)

  pub delay-ran : (feedback : Float) {cs ds : List Float} {rs : List ℕ} (w : ℕ) → length rs ≡ 1
      → ys ≡ given (delay_step xs feedback (length cs)) (cs, word rs 0) (length xs) → ◌≡◌ {A = Ring} (ds, w) (after (delay_step xs feedback (length cs)) (cs, word rs 0) (length xs))
      → Ran (delay_unit feedback) c [] xs cs rs ys ds (set rs 0 w)
  unfolding delay_unit delay_step
  delay-ran feedback {cs} w l y z =
      ring-ran (delay_unit feedback) (delay_step xs feedback (length cs)) w l
      (λ k h u n.
      let made = delay_of feedback (at xs k) (at u.0 u.1) in
      (length-set u.0 u.1 made ∙ n, λ i. (made, (set u.0 u.1 made, next_place u.1 (n i) ∷ []))))
      y z

  pub chorus-ran : (base swing rate srf mix : Float) {cs ds : List Float} {rs : List ℕ} (w : ℕ) → length rs ≡ 1
      → ys ≡ given (chorus_step xs base swing rate srf mix (length cs) c.position) (cs, word rs 0) (length xs)
      → ◌≡◌ {A = Ring} (ds, w) (after (chorus_step xs base swing rate srf mix (length cs) c.position) (cs, word rs 0) (length xs))
      → Ran (chorus_unit base swing rate srf mix) c [] xs cs rs ys ds (set rs 0 w)
  unfolding chorus_unit chorus_step
  chorus-ran base swing rate srf mix {cs} w l y z =
      ring-ran (chorus_unit base swing rate srf mix) (chorus_step xs base swing rate srf mix (length cs) c.position) w l
      (λ k h u n.
      let x = at xs k in
      let line = set u.0 u.1 x in (
        length-set u.0 u.1 x ∙ n,
        λ i. let r = chorus_read base swing rate srf (n i) u.1 (moment-position k c i) in (chorus_of mix r.frac x (at line r.i0) (at line r.i1), (line, next_place u.1 (n i) ∷ [])),
      ))
      y z

  -- ---- ten lines: the kernel's state is what the record owns
  pub reverb-ran : (feedback mix : Float) (sr : ℕ) {cs ds : List Float} {rs ss : List ℕ} (lens : List ℕ) → lens ≡ reverb_lines sr
      → ys ≡ given (reverb_step xs feedback mix lens) (cs, rs) (length xs) → ◌≡◌ {A = Own} (ds, ss) (after (reverb_step xs feedback mix lens) (cs, rs) (length xs)) → Ran (reverb_unit feedback mix sr) c [] xs cs rs ys ds ss
  unfolding reverb_unit reverb_step
  reverb-ran feedback mix sr {cs} {rs = rs} lens e y z =
      ran-part (λ o. o) (reverb_step xs feedback mix lens) (reverb_unit feedback mix sr) c [] (cs, rs) (λ k h u i. reverb_of feedback mix (sym e i) (at xs k) u) refl y z
