-- A unit over a block: the steps that its one-sample definition takes, and what a function that plays the block leaves.
use Rattle.std.specs.Prelude.{◌≡◌, refl, List, map, ℕ, zero, suc, ◌+◌, ◌≤◌, ◌<◌, length, Float}
use Rattle.std.proofs.Common.{sym, ap, ◌∙◌, add-zero, arith}
use Rattle.tree.specs.Comm.{later}
use Rattle.block.specs.Iterate.{at, given, after, part_in}
use Rattle.control.specs.declared.Controls.{Controls}
use Rattle.control.specs.Moves.{moved, risen, following, bent}
use Rattle.sheet.specs.Record.{count_of, kind}
use Rattle.sheet.specs.Checks.{check_of}
use Rattle.layout.specs.Needs.{cells_by, registers_by}
use Rattle.unit.specs.Own.{Own, Ugen, stateless}

-- the controls of sample k, the first sample's being c
abbrev pub moment : Controls → ℕ → Controls
moment c k = later following k c

-- sample k: bufs are the buffers of the values, xs the samples that come in
abbrev pub steps : Ugen → Controls → List (List Float) → List Float → ℕ → Own → Float × Own
steps f c bufs xs k o = f (moment c k) (map (λ b. at b k) bufs) (at xs k) o

-- from xs and what was owned, cs and rs, a block makes ys and leaves ds and ss
pub record Ran (f : Ugen) (c : Controls) (bufs : List (List Float)) (xs cs : List Float) (rs : List ℕ) (ys ds : List Float) (ss : List ℕ) : Type 0 where
  pub samples : ys ≡ given (steps f c bufs xs) (cs, rs) (length xs)
  pub state : ◌≡◌ {A = Own} (ds, ss) (after (steps f c bufs xs) (cs, rs) (length xs))

-- what plays a block of record i of the kind k, in an accepted sheet, is lent the record's own cells and registers
pub record Lent (s : List ℕ) (i k nc nr : ℕ) : Type 0 where
  pub passed : check_of s ≡ 0
  pub inside : i < count_of s
  pub kind_is : k ≡ kind s i
  pub cells : nc ≡ cells_by s i
  pub registers : nr ≡ registers_by s i

-- w holds what the sources read for the pitch, for n samples
pub record Pitched (c : Controls) (w : List Float) (n : ℕ) : Type 0 where
  pub long : n ≤ length w
  pub at_all : (k : ℕ) → k < n → at w k ≡ bent (moment c k)

-- ---- moments
pub moment-position : (k : ℕ) (c : Controls) → (moment c k).position ≡ c.position + k
unfolding later moved risen
moment-position zero c = sym (add-zero c.position)
moment-position (suc k) c =
    let e : c.position + 1 + k ≡ c.position + suc k = omega arith in
    moment-position k (following c) ∙ e

-- ---- a block by the kernel's own state: φ lays that state into what the record owns
pub ran-part : {S : Type 0} (φ : S → Own) (g : ℕ → S → Float × S) (f : Ugen) (c : Controls) (bufs : List (List Float)) {xs cs : List Float} {rs : List ℕ} {ys ds : List Float} {ss : List ℕ} (s : S)
    → ((k : ℕ) → k < length xs → (u : S) → steps f c bufs xs k (φ u) ≡ ((g k u).0, φ (g k u).1))
    → ◌≡◌ {A = Own} (cs, rs) (φ s) → ys ≡ given g s (length xs) → ◌≡◌ {A = Own} (ds, ss) (φ (after g s (length xs))) → Ran f c bufs xs cs rs ys ds ss
ran-part φ g f c bufs {xs} s e p y z =
    let r = part_in φ g (steps f c bufs xs) (length xs) e s in
    record {
      samples = y ∙ sym r.0 ∙ ap (λ (o : Own). given (steps f c bufs xs) o (length xs)) (sym p);
      state = z ∙ sym r.1 ∙ ap (λ (o : Own). after (steps f c bufs xs) o (length xs)) (sym p);
    }

-- a unit that leaves what it owns as it is: its samples are those of a kernel without a state
pub ran-stateless : (h : Controls → List Float → Float → Float) (g : ℕ → Unit {0} → Float × Unit {0}) (c : Controls) (bufs : List (List Float)) {xs cs : List Float} {rs : List ℕ} {ys : List Float}
    → ((k : ℕ) → k < length xs → h (moment c k) (map (λ b. at b k) bufs) (at xs k) ≡ (g k tt).0) → ys ≡ given g tt (length xs) → Ran (stateless h) c bufs xs cs rs ys cs rs
ran-stateless h g c bufs {xs} {cs} {rs} e y =
    ran-part {S = Unit {0}} (λ u. (cs, rs)) g (stateless h) c bufs tt (λ k l u. ap {B = Float × Own} (λ y. (y, (cs, rs))) (e k l)) refl y refl
