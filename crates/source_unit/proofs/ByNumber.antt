-- Laws of sources by their numbers, of oscillators with any buffers, and of cells that are stored one by one. No function asks for them since a kind is an enum,
-- an oscillator is lent its first value with the pitch, and cells are copied whole; they stand since the definitions are over numbers and lists.
use Rattle.std.specs.Prelude.{◌≡◌, true, List, [], ◌∷◌, map, ℕ, ltb, length, set, Float}
use Rattle.std.proofs.Common.{sym, ap, ◌∙◌}
use Rattle.std.specs.Float.{nan}
use Rattle.tree.specs.Block.{tab}
use Rattle.tree.specs.Lists.{written}
use Rattle.block.specs.Iterate.{at, given, after}
use Rattle.control.specs.declared.Controls.{Controls}
use Rattle.control.specs.Moves.{bent}
use Rattle.sheet.specs.Record.{length_of, record_at}
use Rattle.unit.specs.Own.{Own, Ugen}
use Rattle.unit.specs.Sources.{source_unit}
use Rattle.unit.specs.Unit.{srf, kind_unit}
use Rattle.unit.specs.Block.{moment, Ran, Lent, Pitched, ran-part}

pub source_is : {s : List ℕ} {i k nc nr : ℕ} → Lent s i k nc nr → (j : ℕ) → k ≡ j → ltb j 21 ≡ true → kind_unit s i ≡ source_unit (record_at s i) (srf s) (length_of s) j
unfolding kind_unit
source_is l j e h = rw (sym l.kind_is ∙ e, h)

-- a unit whose cells are φ of a state, by a kernel h of its values, the pitch and that state; it may have no value
pub osc-ran : {S : Type 0} (φ : S → List Float) (h : List Float → Float → S → Float × S) (f : Ugen) (c : Controls) (bufs : List (List Float)) (w : List Float)
    {xs cs : List Float} {rs : List ℕ} {ys ds : List Float} (s : S)
    → ((c : Controls) (vs : List Float) (x : Float) (u : S) → f c vs x (φ u, rs) ≡ ((h vs (bent c) u).0, (φ (h vs (bent c) u).1, rs)))
    → Pitched c w (length xs) → cs ≡ φ s → ys ≡ given (λ k. h (map (λ b. at b k) bufs) (at w k)) s (length xs) → ds ≡ φ (after (λ k. h (map (λ b. at b k) bufs) (at w k)) s (length xs))
    → Ran f c bufs xs cs rs ys ds rs
osc-ran {S} φ h f c bufs w {xs} {cs} {rs} s e p q y z =
    ran-part (λ (u : S). (φ u, rs)) (λ k. h (map (λ b. at b k) bufs) (at w k)) f c bufs s
    (λ k l u. e (moment c k) (map (λ b. at b k) bufs) (at xs k) u ∙ ap {B = Float × Own} (λ v. let r = h (map (λ b. at b k) bufs) v u in (r.0, (φ r.1, rs))) (sym (p.at_all k l)))
    (ap {B = Own} (λ l. (l, rs)) q) y (ap {B = Own} (λ l. (l, rs)) z)

-- ---- cells as they are stored
pub two-stored : {A : Type 0} (l : List A) {x y : A} → length l ≡ 2 → set (set l 0 x) 1 y ≡ x ∷ y ∷ []
unfolding tab
two-stored l {x} {y} e = ap (λ l. set (set l 0 x) 1 y) (written x 2 l e)

pub seven-stored : (l b : List Float) → length l ≡ 7 → length b ≡ 7 → set (set (set (set (set (set (set l 0 (at b 0)) 1 (at b 1)) 2 (at b 2)) 3 (at b 3)) 4 (at b 4)) 5 (at b 5)) 6 (at b 6) ≡ b
unfolding tab
seven-stored l b e f =
    ap (λ l. set (set (set (set (set (set (set l 0 (at b 0)) 1 (at b 1)) 2 (at b 2)) 3 (at b 3)) 4 (at b 4)) 5 (at b 5)) 6 (at b 6)) (written nan 7 l e) ∙ sym (written nan 7 b f)
