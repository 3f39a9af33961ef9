-- The pitch of each sample of a block: the controls glide on, or stay.
use Rattle.std.specs.Prelude.{◌≡◌, refl, List, map, ℕ, zero, suc, ◌+◌, ◌≤◌, ◌<◌, length, set, Float}
use Rattle.std.proofs.Common.{sym, ap, ◌∙◌, add-zero, add-one, arith, length-set, get_or-set_same, get_or-set_other}
use Rattle.std.proofs.Math.Decide.{ℕ_discrete}
use Rattle.std.proofs.lemmas.List.{length-map}
use Rattle.std.specs.Float.{nan}
use Rattle.tree.specs.Comm.{later}
use Rattle.tree.specs.Lists.{get_or-const}
use Rattle.block.specs.Iterate.{at}
use Rattle.control.specs.declared.Controls.{Controls}
use Rattle.float.specs.Single.{◌⊗◌}
use Rattle.control.specs.Moves.{glided, moved, risen, bent}
use Rattle.unit.specs.Block.{Pitched, moment}
use Rattle.machine.specs.Samples.{tick}
use Rattle.machine.proofs.Samples.{later-moved, later-position}

-- ---- the loop that works out what the sources read for the pitch
later_more : (n : ℕ) (c : Controls) → later tick (n + 1) c ≡ tick (later tick n c)
unfolding later
later_more n c = rw add-one (go n c)
  where
    go : (n : ℕ) (c : Controls) → later tick (suc n) c ≡ tick (later tick n c)
    go zero c = refl
    go (suc n) c = go n (tick c)

pub record Gliding (c : Controls) (w v : List Float) (r : Controls) (k : ℕ) : Type 0 where
  pub long : length v ≡ length w
  pub bound : k ≤ length w
  pub is : r ≡ later tick k c
  pub at_position : r.position ≡ c.position + k
  pub done : (j : ℕ) → j < k → at v j ≡ bent (moment (moved c) j)

pub glide-start : (c : Controls) (w : List Float) → Gliding c w w c 0
unfolding later
glide-start c w = record { long = refl; bound = omega arith; is = refl; at_position = sym (add-zero c.position); done = λ j h. let z : ⊥ = omega arith in absurd z }

pub glide-turn : (c : Controls) (w v : List Float) (r : Controls) (k : ℕ) (x : Float) (q : Controls) → Gliding c w v r k → k < length w → x ≡ bent (moved r) → q ≡ tick r → Gliding c w (set v k x) q (k + 1)
glide-turn c w v r k x q i h e d =
    let is : q ≡ later tick (k + 1) c = d ∙ ap tick i.is ∙ sym (later_more k c) in
    record {
      long = simp length-set i.long;
      bound = omega arith;
      is = is;
      at_position = ap (λ (t : Controls). t.position) is ∙ later-position (k + 1) c;
      done = λ j g. elim (ℕ_discrete j k) [
        | yes z ↦ rw z (get_or-set_same v k x nan (omega (arith, i.long)) ∙ e ∙ ap bent (ap moved i.is ∙ later-moved k c))
        | no z ↦ get_or-set_other v k j x nan z ∙ i.done j (omega arith)
      ];
    }

-- ---- a pitch that a sample does not move: the controls n samples on
abbrev pub risen_by : ℕ → Controls → Controls
risen_by n c = record { position = c.position + n; pitch = c.pitch; target = c.target; glide = c.glide; bend = c.bend }

pub later-held : (c : Controls) → glided c.pitch c.target c.glide ≡ c.pitch → (n : ℕ) → later tick n c ≡ risen_by n c
unfolding later moved risen
later-held c e zero = ap (λ (p : ℕ). at_position p) (sym (add-zero c.position))
  where
    at_position : ℕ → Controls
    at_position p = record { position = p; pitch = c.pitch; target = c.target; glide = c.glide; bend = c.bend }
later-held c e (suc n) =
    ap (λ (x : Float). later tick n (at-pitch x)) e
    ∙ later-held (at-pitch c.pitch) e n
    ∙ ap (λ (p : ℕ). at_position p) (more c.position n)
  where
    at_position : ℕ → Controls
    at_position p = record { position = p; pitch = c.pitch; target = c.target; glide = c.glide; bend = c.bend }

    at-pitch : Float → Controls
    at-pitch x = record { position = c.position + 1; pitch = x; target = c.target; glide = c.glide; bend = c.bend }

    more : (p n : ℕ) → p + 1 + n ≡ p + suc n
    more p n = omega arith

-- each sample then reads the same pitch
pub pitched-held : (c : Controls) → glided c.pitch c.target c.glide ≡ c.pitch → (x : Float) → x ≡ bent c → (w : List Float) → Pitched (moved c) (map (λ y. x) w) (length w)
unfolding moved
pitched-held c e x p w = record {
  long = omega (arith, length-map w (λ y. x));
  at_all = λ k h. get_or-const x w k nan h ∙ p ∙ ap (λ (y : Float). y ⊗ c.bend) (sym e) ∙ ap bent (ap moved (sym (later-held c e k)) ∙ later-moved k c);
}
