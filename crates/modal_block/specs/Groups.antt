-- A group of samples at once: what n modes make of each of them, blended, is what the steps of the block give.
use Rattle.std.specs.Prelude.{◌≡◌, ℕ, zero, suc, ◌+◌, ◌-◌, ◌≤◌, ◌<◌, List, length, take, drop, set, Float}
use Rattle.std.proofs.Math.Path.{sym, ap}
use Rattle.std.proofs.Common.{◌∙◌, le_refl, add-suc, subst, arith}
use Rattle.std.proofs.lemmas.List.{get_or-take, get_or-drop}
use Rattle.std.specs.Float.{nan}
use Rattle.block.specs.Iterate.{at, after, given, given-at, after_more}
use Rattle.block.specs.Loop.{Going, going-turn}
use Rattle.proc.specs.Effects.{blend}
use Rattle.modal_block.specs.Modal.{modes, modal_of, modal_step}
use Rattle.modal_block.specs.Modes.{modes_step}

-- the samples of a part
pub part-is : (l : List Float) {x : List Float} (k N : ℕ) → x ≡ take (k + N - k) (drop k l) → (i : ℕ) → i < N → at x i ≡ at l (k + i)
part-is l k N e i h = ap (λ (x : List Float). at x i) e ∙ get_or-take (k + N - k) (drop k l) i nan (omega arith) ∙ get_or-drop k l i nan

module _ (xs cs : List Float) (mix : Float) (n : ℕ) where
  abbrev steps : ℕ → List Float → Float × List Float
  steps = modal_step xs mix n

  -- k samples are done, with the cells as the steps leave them
  abbrev pub Done : ℕ → List Float → Type 0
  Done k ys = Going nan steps cs xs k ys (after steps cs k)

  pub group-start : {k : ℕ} {ys ds : List Float} → Going nan steps cs xs k ys ds → Done (k + 0) ys
  group-start {k} {ys} g =
      let e : k + 0 ≡ k = omega arith in
      rw e (subst (λ (u : List Float). Going nan steps cs xs k ys u) g.state g)

  -- a group of N samples, x, from sample k on
  module _ (k N : ℕ) (x : List Float) {ys ds : List Float} (g : Going nan steps cs xs k ys ds)
      (is-x : (i : ℕ) → i < N → at x i ≡ at ys (k + i)) where
    input : (j : ℕ) → j < N → at x j ≡ at xs (k + j)
    input j h = is-x j h ∙ g.todo (k + j) (omega arith)

    pub group-cells : (j : ℕ) → j ≤ N → after (modes_step n x) ds j ≡ after steps cs (k + j)
    unfolding after modal_step modal_of
    group-cells zero h = let e : k + 0 ≡ k = omega arith in rw e g.state
    group-cells (suc j) h =
        (λ i. (modes (input j (omega arith) i) (group-cells j (omega arith) i) n).1)
        ∙ sym (ap (after steps cs) (add-suc k j))

    pub group-end : {zs es : List Float} → es ≡ after (modes_step n x) ds N → Done (k + N) zs → Going nan steps cs xs (k + N) zs es
    group-end {zs} e d = subst (λ (u : List Float). Going nan steps cs xs (k + N) zs u) (sym (e ∙ group-cells N (le_refl N))) d

    pub group-turn : (j : ℕ) → j < N → k + N ≤ length ys → {wet zs : List Float} → wet ≡ given (modes_step n x) ds N → Done (k + j) zs
        → Done (k + (j + 1)) (set zs (k + j) (blend mix (at x j) (at wet j)))
    unfolding modal_step modal_of
    group-turn j h l {wet} {zs} is-wet d =
        let w : at wet j ≡ (modes (at x j) (after (modes_step n x) ds j) n).0 = ap (λ (l : List Float). at l j) is-wet ∙ given-at (modes_step n x) ds N j nan h in
        let y : blend mix (at x j) (at wet j) ≡ (steps (k + j) (after steps cs (k + j))).0 =
        ap (blend mix (at x j)) w ∙ (λ i. blend mix (input j h i) (modes (input j h i) (group-cells j (omega arith) i) n).0) in
        let e : k + j + 1 ≡ k + (j + 1) = omega arith in
        rw e at (going-turn nan steps cs xs d (omega (arith, g.long)) y (after_more steps cs (k + j)))
