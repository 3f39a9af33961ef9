use mathlib.Core.Path.{◌≡◌, sym, ap, ◌∙◌}
use mathlib.Core.List.{[], ◌∷◌}
use Prim.Native.Nat.{◌+◌, ◌*◌, ◌<◌, ◌≤◌}
use native.Mathlib.Omega.{arith}
use Rattle.std.specs.Prelude.{false}
use Rattle.std.proofs.Common.{rules}
use lib.ListN.{length}
use lib.IntN.{pos}
use lib.Ieee.{binary32, of_int}
use Rattle.float.specs.Single.{zero}
use Rattle.dsl.specs.Options.{drive_shape_of}
use Rattle.drive.specs.Drive.{antiderivative_of}
use Rattle.sheet.specs.Record.{option_of, number_of, record_at, first}
use Rattle.sheet.specs.Numbers.{kind_number, src_number, fold_number, biquad_number, proc_number, val_number}
use Rattle.layout.specs.Needs.{need_of, voices_of, cells_by}
use Rattle.layout.specs.Tables.{Table, first_entry}
use Rattle.unit.specs.Laws.{filter-need}
use Rattle.unit.specs.Start.{super_start, compress_start, rand_start, start_cells}
use Rattle.start_values.specs.Written.{zeroed}
use Rattle.start.specs.Cells.{chain_start, filter-start, src-at, proc-at, val-at, filter-at, starting, zero-start}
use Rattle.start.proofs.cells.Goals.{Start}
use Rattle.start.proofs.cells.Goals as goal

-- what is left of the sheet from the record on has all of it, and the firsts are as many as the plan counts
room : (s : Start) → 24 + 40 * (s.args.i + 1) ≤ length s.args.plan.now.sheet.now
room s = let p = s.args.plan.now.made.passed in omega (arith, p.long, p.count, s.requires.1)

counted : (s : Start) → s.args.i < s.args.plan.now.count
counted s = omega (arith, s.args.plan.now.made.passed.count, s.requires.1)

firsts : (s : Start) → Table (first s.args.plan.now.sheet.now) s.args.plan.now.count s.args.firsts.now
firsts s = rw s.args.plan.now.made.passed.count s.requires.0

pub super_start-requires : goal.super_start-requires
unfolding cells_by need_of src_number
super_start-requires c = c.requires.4 ∙ rw (c.at-r.ensures, src-at c.requires.2 c.in-Src-Super.is (rw c.in-Src-Super.is at c.in-Src-Super.field-0-is))

pub filter-requires : goal.filter-requires
filter-requires c =
    let b = filter-at c.requires.2 c.in-Biquad.is in
    c.requires.4 ∙ filter-need c.args.plan.now.sheet.now c.args.i b.0 b.1

pub modal-requires : goal.modal-requires
unfolding cells_by need_of proc_number
modal-requires c =
    let a = (goal.at.modal-requires c).Start in
    let t = firsts a in (
      first_entry c.args.plan.now.sheet.now c.args.plan.now.count c.args.plan.now.made.passed c.args.firsts.now t c.args.i (counted a),
      c.requires.4 ∙ rw (proc-at c.requires.2 c.in-Proc-Modal.is (rw c.in-Proc-Modal.is at c.in-Proc-Modal.field-0-is), t.at c.args.i (counted a)),
    )

pub drive-requires : goal.drive-requires
unfolding cells_by need_of proc_number
drive-requires c =
    c.requires.4 ∙ rw (proc-at c.requires.2 c.in-Proc-Drive.is (rw c.in-Proc-Drive.is at c.in-Proc-Drive.field-0-is))

pub compress-requires : goal.compress-requires
unfolding cells_by need_of proc_number
compress-requires c =
    c.requires.4 ∙ rw (proc-at c.requires.2 c.in-Proc-Compress.is (rw c.in-Proc-Compress.is at c.in-Proc-Compress.field-0-is))

pub rand-requires : goal.rand-requires
unfolding cells_by need_of val_number
rand-requires c =
    c.requires.4 ∙ rw (val-at c.requires.2 c.in-Val-Rand.is (rw c.in-Val-Rand.is at c.in-Val-Rand.field-0-is))

pub returns-in-Src-Super : goal.returns-in-Src-Super
unfolding start_cells src_number
returns-in-Src-Super c =
    c.super_start.ensures ∙ ap (λ r. super_start (voices_of r) (number_of r 1)) c.at-r.ensures
    ∙ rw (src-at c.requires.2 c.in-Src-Super.is (rw c.in-Src-Super.is at c.in-Src-Super.field-0-is))

pub returns-in-Biquad : goal.returns-in-Biquad
returns-in-Biquad c =
    let b = filter-at c.requires.2 c.in-Biquad.is in
    c.filter.ensures ∙ sym (filter-start c.args.plan.now.sheet.now c.args.i b.0 b.1)

pub returns-in-Proc-Modal : goal.returns-in-Proc-Modal
unfolding start_cells proc_number
returns-in-Proc-Modal c =
    let a = (goal.at.returns-in-Proc-Modal c).Start in
    c.modal.ensures ∙ ap (chain_start c.args.plan.now.sheet.now) ((firsts a).at c.args.i (counted a))
    ∙ rw (proc-at c.requires.2 c.in-Proc-Modal.is (rw c.in-Proc-Modal.is at c.in-Proc-Modal.field-0-is))

pub returns-in-Proc-Drive : goal.returns-in-Proc-Drive
unfolding start_cells proc_number
returns-in-Proc-Drive c =
    c.drive.ensures ∙ ap (λ w. zero ∷ antiderivative_of w zero ∷ zero ∷ zero ∷ []) (c.from.ensures ∙ ap drive_shape_of (c.option.ensures ∙ ap option_of c.at-r.ensures))
    ∙ rw (proc-at c.requires.2 c.in-Proc-Drive.is (rw c.in-Proc-Drive.is at c.in-Proc-Drive.field-0-is))

pub returns-in-Proc-Compress : goal.returns-in-Proc-Compress
unfolding start_cells proc_number
returns-in-Proc-Compress c =
    c.compress.ensures ∙ ap (λ r. compress_start (number_of r) c.u32_to_f32.result) c.at-r.ensures
    ∙ ap (compress_start (number_of (record_at c.args.plan.now.sheet.now c.args.i))) (c.u32_to_f32.ensures ∙ ap (λ n. of_int binary32 (pos n)) c.rate.ensures)
    ∙ rw (proc-at c.requires.2 c.in-Proc-Compress.is (rw c.in-Proc-Compress.is at c.in-Proc-Compress.field-0-is))

pub returns-in-Val-Rand : goal.returns-in-Val-Rand
unfolding start_cells val_number
returns-in-Val-Rand c =
    c.rand.ensures ∙ ap rand_start c.at-r.ensures
    ∙ rw (val-at c.requires.2 c.in-Val-Rand.is (rw c.in-Val-Rand.is at c.in-Val-Rand.field-0-is))

pub returns-in_default : goal.returns-in_default
unfolding kind_number src_number fold_number biquad_number proc_number val_number
returns-in_default c =
    let q : starting (kind_number c.args.k) ≡ false = search rules in
    zeroed c.args.own.now c.fill_block.ensures c.requires.4 ∙ sym (zero-start c.args.plan.now.sheet.now c.args.i c.requires.3 c.requires.2 q)
