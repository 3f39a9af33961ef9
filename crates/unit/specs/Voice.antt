-- The voice that a sheet describes: its built records as a patch, and the root's sample.
use Rattle.std.specs.Prelude.{cond, List, ℕ, eqb, Float}
use Rattle.std.specs.Float.{nan}
use Rattle.float.specs.Single.{◌⊕◌, ◌⊗◌, zero, one}
use Rattle.tree.specs.Tree.{Kind, leaf, fold, chain}
use Rattle.block.specs.Patch.{Patch, src}
use Rattle.control.specs.declared.Controls.{Controls}
use Rattle.control.specs.Moves.{following}
use Rattle.sheet.specs.Record.{count_of, kind}
use Rattle.sheet.specs.Kinds.{Chain, empty, values, nodes, modes, steps, row_of, is_fold}
use Rattle.layout.specs.Built.{begin, after}
use Rattle.layout.specs.Counts.{layout_of}
use Rattle.unit.specs.Own.{Own, silence}
use Rattle.unit.specs.Unit.{unit_of}

-- 11 Mix adds its inputs to 0, 12 Mul multiplies 1 by them, 13 Chain passes a sample through its stages; the others play by their own unit
abbrev pub join_of : ℕ → Float → Float → Float
join_of k = cond (eqb k 12) ◌⊗◌ ◌⊕◌

abbrev pub empty_of : ℕ → Float
empty_of k = cond (eqb k 12) one zero

unfoldable pub tree_kind : ℕ → Kind Float
tree_kind k = cond (is_fold k) (fold (empty_of k) (join_of k)) (cond (eqb k 13) chain leaf)

-- the chain that plays for a record: modes and steps do not play, the unit of their Modal or Arp reads them
abbrev pub playing : Chain → ℕ → ℕ
playing empty b = b
playing (values n) b = b
playing nodes b = b
playing modes b = 0
playing steps b = 0

abbrev pub entered : List ℕ → ℕ → ℕ
entered s i = playing (row_of (kind s i)).chain (begin s i)

abbrev pub voice : List ℕ → Patch Controls Float ℕ Float
voice s = record {
  count = count_of s;
  nx = following;
  layout = layout_of s;
  first = entered s;
  next = after s;
  kind = λ i. tree_kind (kind s i);
  silence = silence;
  none = nan;
  unit = unit_of s;
}

-- THE ROOT'S SAMPLE, for the controls of the sample, on the cells and registers
unfoldable pub root_sample : List ℕ → Controls → Own → Float × Own
root_sample s c o = src (voice s) c silence o
