-- Reverb for one sample, its lines a bank in the record's own cells and registers, and as a step of a block.
use Rattle.std.specs.Prelude.{◌≡◌, List, ℕ, zero, suc, ◌+◌, ◌<◌, length, set, Float}
use Rattle.float.specs.Single.{◌⊕◌}
use Rattle.float.specs.Single as single
use Rattle.block.specs.Bank.{units}
use Rattle.block.specs.Iterate.{at, word}
use Rattle.line_step.specs.Line.{next_place, comb_of, allpass_of, reverb_mix}

-- ten lines, six combs and then four allpasses, one after the other in the cells, then the combs' six stores; the
-- registers are the ten places. lens are the lines' lengths.
unfoldable pub line_from : List ℕ → ℕ → ℕ
line_from lens zero = 0
line_from lens (suc k) = line_from lens k + word lens k

abbrev pub store_of : List ℕ → ℕ → ℕ
store_of lens k = line_from lens 10 + k

-- what has been summed or filtered so far, the cells and the places
abbrev pub Wet : Type 0
Wet = Float × (List Float × List ℕ)

unfoldable pub comb_at : Float → List ℕ → Float → Wet → ℕ → Wet
comb_at feedback lens x (wet, (cs, rs)) k =
    let w = line_from lens k + word rs k in
    let o = comb_of feedback (at cs (store_of lens k)) x (at cs w) in
    (wet ⊕ o.0, (set (set cs w o.2) (store_of lens k) o.1, set rs k (next_place (word rs k) (word lens k))))

unfoldable pub allpass_at : List ℕ → Wet → ℕ → Wet
allpass_at lens (wet, (cs, rs)) k =
    let w = line_from lens k + word rs k in
    let o = allpass_of wet (at cs w) in
    (o.0, (set cs w o.1, set rs k (next_place (word rs k) (word lens k))))

abbrev pub combs : Float → List ℕ → Float → List Float × List ℕ → ℕ → Wet
combs feedback lens x s = units (comb_at feedback lens x) (single.zero, s)

-- the allpasses are the lines from the sixth on
abbrev pub allpasses : List ℕ → Wet → ℕ → Wet
allpasses lens = units (λ r k. allpass_at lens r (6 + k))

unfoldable pub reverb_of : Float → Float → List ℕ → Float → List Float × List ℕ → Float × (List Float × List ℕ)
reverb_of feedback mix lens x s =
    let r = allpasses lens (combs feedback lens x s 6) 4 in
    (reverb_mix mix x r.0, r.1)

unfoldable pub reverb_step : List Float → Float → Float → List ℕ → ℕ → List Float × List ℕ → Float × (List Float × List ℕ)
reverb_step xs feedback mix lens k s = reverb_of feedback mix lens (at xs k) s

-- ten lines and ten places, each inside its line
pub record Placed (lens rs : List ℕ) : Type 0 where
  pub lines : length lens ≡ 10
  pub places : length rs ≡ 10
  pub inside : (k : ℕ) → k < 10 → word rs k < word lens k
