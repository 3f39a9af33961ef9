-- A record's state as its cells and registers hold it, in the sheet's order, and a filter's kind by its number.
use Rattle.std.specs.Prelude.{cond, List, ◌∷◌, [], ℕ, eqb, Float, get_or}
use Rattle.block.specs.Iterate.{at}
use Rattle.float.specs.Single.{one}
use Rattle.control.specs.declared.Controls.{Controls}
use Rattle.rand_value.specs.declared.Rand.{Rand}
use Rattle.source.specs.declared.Triangle.{Triangle}
use Rattle.source.specs.declared.Fm.{Fm}
use Rattle.unpitched.specs.declared.Pink.{Pink}
use Rattle.unpitched.specs.declared.Brown.{Brown}
use Rattle.unpitched.specs.declared.Dust.{Dust}
use Rattle.filter_step.specs.declared.Filter.{Filter}
use Rattle.drive_step.specs.declared.Drive.{Drive}
use Rattle.biquad.specs.declared.FilterKind.{FilterKind}

abbrev pub word_at : List ℕ → ℕ
word_at words = get_or words 0 0

abbrev pub rand_of : List Float → List ℕ → Rand
rand_of cells words = record { rng = record { state = word_at words }; prev = at cells 0; next = at cells 1; phase = at cells 2 }

abbrev pub triangle_at : List Float → Triangle
triangle_at cells = record { phase = at cells 0; tri = at cells 1 }

abbrev pub fm_at : List Float → Fm
fm_at cells = record { cph = at cells 0; mph = at cells 1 }

abbrev pub pink_at : List Float → List ℕ → Pink
pink_at cells words = record { rng = record { state = word_at words }; poles = at cells 0 ∷ at cells 1 ∷ at cells 2 ∷ at cells 3 ∷ at cells 4 ∷ at cells 5 ∷ at cells 6 ∷ [] }

abbrev pub brown_at : List Float → List ℕ → Brown
brown_at cells words = record { rng = record { state = word_at words }; last = at cells 0 }

abbrev pub dust_at : List Float → List ℕ → Dust
dust_at cells words = record { rng = record { state = word_at words }; y = at cells 0 }

abbrev pub filter_at : List Float → Filter
filter_at c = record { scale = at c 0; prev_f = at c 1; b0 = at c 2; b1 = at c 3; b2 = at c 4; a1 = at c 5; a2 = at c 6; x1 = at c 7; x2 = at c 8; y1 = at c 9; y2 = at c 10 }

abbrev pub drive_at : List Float → Drive
drive_at c = record { x_prev = at c 0; f_prev = at c 1; dc_x = at c 2; dc_y = at c 3 }

unfoldable pub kind_of : ℕ → Float → FilterKind
kind_of n db =
    cond (eqb n 0) FilterKind.Low (cond (eqb n 1) FilterKind.High (cond (eqb n 2) FilterKind.Band (cond (eqb n 3) FilterKind.Notch (cond (eqb n 4) (FilterKind.Peak db) (cond (eqb n 5) (FilterKind.LowShelf db) (FilterKind.HighShelf db))))))

-- the controls at position t, with no move of pitch or bend
abbrev pub playing : ℕ → Controls
playing t = record { position = t; pitch = one; target = one; glide = one; bend = one }
