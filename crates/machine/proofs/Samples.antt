-- The samples of the machine as a block of the voice, and a run of samples cut in two.
use Rattle.std.specs.Prelude.{◌≡◌, refl, List, ◌∷◌, ◌++◌, ℕ, zero, suc, ◌+◌, length, replicate, Float}
use Rattle.std.proofs.Common.{sym, ap, ◌∙◌, add-zero, arith}
use Rattle.tree.specs.Comm.{M, ret, bind, bind-ap, bind-ap-left, blk, later}
use Rattle.block.specs.Patch.{Valid, src, source, src-is}
use Rattle.control.specs.declared.Controls.{Controls}
use Rattle.control.specs.Moves.{moved, risen, following}
use Rattle.layout.specs.Built.{after}
use Rattle.unit.specs.Own.{Own, silence}
use Rattle.unit.specs.Voice.{voice, root_sample}
use Rattle.machine.specs.Machine.{State, state, sample, samples}
use Rattle.machine.specs.Samples.{tick}

-- what sample n reads: the controls of the first sample, n samples later
pub later-moved : (n : ℕ) (c : Controls) → moved (later tick n c) ≡ later following n (moved c)
unfolding later
later-moved zero c = refl
later-moved (suc n) c = later-moved n (tick c)

pub later-position : (n : ℕ) (c : Controls) → (later tick n c).position ≡ c.position + n
unfolding later moved risen
later-position zero c = sym (add-zero c.position)
later-position (suc n) c = later-position n (tick c) ∙ omega arith

-- ---- a block
-- n samples of the voice, in one block
abbrev pub block : List ℕ → ℕ → Controls → M Own (List Float)
block s n c = blk following (src (voice s)) (moved c) (replicate n silence)

-- what a machine is after n samples whose block leaves o
abbrev pub after_block : ℕ → State → Own → State
after_block n p o = state (later tick n p.controls) o.0 o.1 p.scratch

pub block-samples : (s : List ℕ) (n : ℕ) (p : State)
    → samples s n p ≡ ((block s n p.controls (p.cells, p.registers)).0, after_block n p (block s n p.controls (p.cells, p.registers)).1)
unfolding samples sample root_sample blk later
block-samples s zero p = refl
block-samples s (suc n) p = ap {B = List Float × State} (λ (t : List Float × State). ((sample s p).0 ∷ t.0, t.1)) (block-samples s n (sample s p).1)

-- the same, record by record
pub source-samples : (s : List ℕ) → Valid (voice s) → after s 0 ≡ 0 → (n : ℕ) (p : State)
    → let r = source (voice s) 0 (moved p.controls) (replicate n silence) (p.cells, p.registers) in samples s n p ≡ (r.0, after_block n p r.1)
source-samples s ok root n p = block-samples s n p
    ∙ ap {B = List Float × State} (λ (f : M Own (List Float)). let r = f (p.cells, p.registers) in (r.0, after_block n p r.1)) (src-is (voice s) ok root (moved p.controls) (replicate n silence))

-- ---- as many samples as are asked for; the position rises by as many
pub samples-length : (s : List ℕ) (n : ℕ) (p : State) → length (samples s n p).0 ≡ n
unfolding samples
samples-length s zero p = refl
samples-length s (suc n) p = ap suc (samples-length s n (sample s p).1)

pub samples-position : (s : List ℕ) (n : ℕ) (p : State) → (samples s n p).1.controls.position ≡ p.controls.position + n
samples-position s n p = ap (λ (t : List Float × State). t.1.controls.position) (block-samples s n p) ∙ later-position n p.controls

-- ---- a run of samples cut in two
pub samples-add : (s : List ℕ) (m n : ℕ) → samples s (m + n) ≡ bind (samples s m) (λ ys. bind (samples s n) (λ zs. ret (ys ++ zs)))
unfolding samples
samples-add s zero n = let e : 0 + n ≡ n = omega arith in rw e
samples-add s (suc m) n = let e : suc m + n ≡ suc (m + n) = omega arith in rw e (bind-ap (sample s) (λ y. bind-ap-left (samples-add s m n) (λ ys. ret (y ∷ ys))))

-- ---- scratch plays no part in a sample: what is done to it may as well be done afterwards
abbrev pub with_scratch : (List Float → List Float) → State → State
with_scratch f p = state p.controls p.cells p.registers (f p.scratch)

pub samples-with-scratch : (s : List ℕ) (n : ℕ) (f : List Float → List Float) (p : State) → samples s n (with_scratch f p) ≡ ((samples s n p).0, with_scratch f (samples s n p).1)
unfolding samples sample
samples-with-scratch s zero f p = refl
samples-with-scratch s (suc n) f p = ap {B = List Float × State} (λ (t : List Float × State). ((sample s p).0 ∷ t.0, t.1)) (samples-with-scratch s n f (sample s p).1)

pub samples-scratch : (s : List ℕ) (n : ℕ) (p : State) → (samples s n p).1.scratch ≡ p.scratch
samples-scratch s n p = ap (λ (t : List Float × State). t.1.scratch) (block-samples s n p)
