-- The processors for one sample, on what they own: x is the input, a value of theirs comes first in vs.
use Rattle.std.specs.Prelude.{cond, List, [], ◌∷◌, ℕ, eqb, ltb, pos, length, set, Float}
use Rattle.std.specs.Float.{binary32}
use Rattle.std.specs.Float.Ieee.{of_bits, of_int}
use Rattle.float.specs.Order.{max_of, clamp_of}
use Rattle.float.specs.Single.{zero, one}
use Rattle.block.specs.Iterate.{at, word}
use Rattle.dsl.specs.declared.DriveShape.{DriveShape}
use Rattle.dsl.specs.Options.{drive_shape_of}
use Rattle.biquad.specs.declared.FilterKind.{FilterKind}
use Rattle.biquad.specs.declared.FilterKind.TheVariants.{Low, High, Band, Notch, Peak, LowShelf, HighShelf}
use Rattle.sheet.specs.Record.{option_of, number_of}
use Rattle.lines.specs.Lines.{chorus_base, chorus_swing, reverb_lines}
use Rattle.dsp.specs.Coefficients.{feedback_of}
use Rattle.filter_step.specs.declared.Filter.{Filter}
use Rattle.drive_step.specs.declared.Drive.{Drive}
use Rattle.proc.specs.declared.Compressor.{Compressor}
use Rattle.proc.specs.Effects.{gain_of, tremolo_of, compress_of}
use Rattle.filter_step.specs.Filter.{filter_of}
use Rattle.drive_step.specs.Drive.{drive_step, drive_plain}
use Rattle.line_step.specs.Line.{delay_of, next_place, chorus_read, chorus_of}
use Rattle.modal_block.specs.Modal.{modal_of}
use Rattle.reverb_block.specs.Reverb.{reverb_of}
use Rattle.unit.specs.Own.{Ugen, stateless}

abbrev pub gain_unit : Ugen
gain_unit = stateless (λ c vs x. gain_of (at vs 0) x)

-- ---- the filters: eleven cells, from scale to y2
abbrev pub filter_in : List Float → Filter
filter_in cs = record { scale = at cs 0; prev_f = at cs 1; b0 = at cs 2; b1 = at cs 3; b2 = at cs 4; a1 = at cs 5; a2 = at cs 6; x1 = at cs 7; x2 = at cs 8; y1 = at cs 9; y2 = at cs 10 }

abbrev pub filter_cells : Filter → List Float
filter_cells f = f.scale ∷ f.prev_f ∷ f.b0 ∷ f.b1 ∷ f.b2 ∷ f.a1 ∷ f.a2 ∷ f.x1 ∷ f.x2 ∷ f.y1 ∷ f.y2 ∷ []

unfoldable pub filter_unit : FilterKind → Float → ℕ → Ugen
filter_unit kind q sr c vs x o = let r = filter_of (record { kind = kind; q = q; sr = sr }) (at vs 0) (filter_in o.0) x in (r.0, (filter_cells r.1, o.1))

-- 22 Lowpass to 28 Highshelf; a peak's gain is its second number, a shelf's its first, and a shelf's q is 0.707
unfoldable pub filter_kind_of : ℕ → List ℕ → FilterKind
filter_kind_of kind r =
    cond (eqb kind 22) Low
    (cond (eqb kind 23) High
    (cond (eqb kind 24) Band
    (cond (eqb kind 25) Notch
    (cond (eqb kind 26) (Peak (number_of r 1))
    (cond (eqb kind 27) (LowShelf (number_of r 0))
    (HighShelf (number_of r 0)))))))

unfoldable pub filter_q : ℕ → List ℕ → Float
filter_q kind r = cond (ltb kind 27) (number_of r 0) (of_bits binary32 0x3f34_fdf4)

-- ---- lines: the cells are the line, the register is the place in it
unfoldable pub delay_unit : Float → Ugen
delay_unit feedback c vs x o =
    let w = word o.1 0 in
    let y = delay_of feedback x (at o.0 w) in
    (y, (set o.0 w y, next_place w (length o.0) ∷ []))

-- the input is written before the line is read
unfoldable pub chorus_unit : Float → Float → Float → Float → Float → Ugen
chorus_unit base swing rate srf mix c vs x o =
    let w = word o.1 0 in
    let line = set o.0 w x in
    let r = chorus_read base swing rate srf (length o.0) w c.position in
    (chorus_of mix r.frac x (at line r.i0) (at line r.i1), (line, next_place w (length o.0) ∷ []))

unfoldable pub reverb_unit : Float → Float → ℕ → Ugen
reverb_unit feedback mix sr c vs x o = reverb_of feedback mix (reverb_lines sr) x o

-- ---- Modal: five cells a mode
unfoldable pub modal_unit : Float → ℕ → Ugen
modal_unit mix n c vs x o = let r = modal_of mix n x o.0 in (r.0, (r.1, o.1))

-- ---- Drive: four cells, which only the anti-aliased shapes use
abbrev pub drive_in : List Float → Drive
drive_in cs = record { x_prev = at cs 0; f_prev = at cs 1; dc_x = at cs 2; dc_y = at cs 3 }

abbrev pub drive_cells : Drive → List Float
drive_cells d = d.x_prev ∷ d.f_prev ∷ d.dc_x ∷ d.dc_y ∷ []

unfoldable pub antialiased_unit : DriveShape → Ugen
antialiased_unit shape c vs x o = let r = drive_step shape (at vs 0) (drive_in o.0) x in (r.0, (drive_cells r.1, o.1))

abbrev pub plain_unit : DriveShape → Ugen
plain_unit shape = stateless (λ c vs x. drive_plain shape (at vs 0) x)

-- options 0 to 2 are anti-aliased, 3 to 5 the same shapes plain
abbrev pub drive_unit : ℕ → Ugen
drive_unit option = cond (ltb option 3) (antialiased_unit (drive_shape_of option)) (plain_unit (drive_shape_of option))

abbrev pub tremolo_unit : Float → Float → Float → Ugen
tremolo_unit rate depth srf = stateless (λ c vs x. tremolo_of rate depth srf c.position x)

-- ---- Compress: env, at, rt, makeup
abbrev pub compressor_in : Float → Float → List Float → Compressor
compressor_in threshold ratio cs = record { at = at cs 1; rt = at cs 2; threshold = threshold; ratio = ratio; makeup = at cs 3 }

unfoldable pub compress_unit : Float → Float → Ugen
compress_unit threshold ratio c vs x o =
    let cs = o.0 in
    let r = compress_of (compressor_in threshold ratio cs) (at cs 0) x in
    (r.0, (r.1 ∷ at cs 1 ∷ at cs 2 ∷ at cs 3 ∷ [], o.1))

abbrev unit_range : Float → Float
unit_range x = clamp_of x zero one

-- ---- by kind: 21 Gain to 35 Compress, with the numbers of the record r and, for Modal, how many modes it has
unfoldable pub processor_unit : List ℕ → ℕ → ℕ → ℕ → Ugen
processor_unit r sr modes kind =
    let x = number_of r in
    let srf = of_int binary32 (pos sr) in
    cond (eqb kind 21) gain_unit
    (cond (ltb kind 29) (filter_unit (filter_kind_of kind r) (filter_q kind r) sr)
    (cond (eqb kind 29) (delay_unit (x 1))
    (cond (eqb kind 30) (reverb_unit (feedback_of (x 0)) (unit_range (x 1)) sr)
    (cond (eqb kind 31) (modal_unit (unit_range (x 0)) modes)
    (cond (eqb kind 32) (drive_unit (option_of r))
    (cond (eqb kind 33) (tremolo_unit (x 0) (x 1) srf)
    (cond (eqb kind 34) (chorus_unit (chorus_base sr) (chorus_swing (x 1) sr) (x 0) srf (unit_range (x 2)))
    (compress_unit (x 0) (max_of (x 1) one)))))))))
