use Rattle.std.specs.Prelude.{◌≡◌, ◌+◌, ◌≤◌, true, false, length}
use Rattle.std.proofs.Common.{rules, arith}
use lib.ListN.{length-set}
use Rattle.sheet.specs.Numbers.{kind_number, src_number, fold_number, biquad_number, proc_number, val_number}
use Rattle.machine.specs.Machine.{is_filter}
use Rattle.start_values.specs.Written.{quiet-nan}
use Rattle.state.proofs.scale.Goals.{In-Biquad}
use Rattle.state.proofs.scale.Goals as goal

-- a built filter has two cells at least
room : (c : In-Biquad) → c.args.row.cells + 2 ≤ length c.args.cells.now
unfolding kind_number biquad_number
room c =
    let q : is_filter (kind_number c.args.row.kind) ≡ true = search rules in
    c.requires c.if-row.true q

pub offset_bounds-cells-at : goal.offset_bounds-cells-at
offset_bounds-cells-at c = omega (arith, room (goal.at.offset_bounds-cells-at c).In-Biquad)

pub bounds-cells-at : goal.bounds-cells-at
bounds-cells-at c = omega (arith, room (goal.at.bounds-cells-at c).In-Biquad)

pub overflow_add-cells : goal.overflow_add-cells
overflow_add-cells c = omega (arith, room (goal.at.overflow_add-cells c).In-Biquad)

pub offset_bounds-cells-at-in-Biquad : goal.offset_bounds-cells-at-in-Biquad
offset_bounds-cells-at-in-Biquad c = omega (arith, room (goal.at.offset_bounds-cells-at-in-Biquad c).In-Biquad)

pub bounds-cells-at-in-Biquad : goal.bounds-cells-at-in-Biquad
bounds-cells-at-in-Biquad c = simp length-set (omega (arith, room (goal.at.bounds-cells-at-in-Biquad c).In-Biquad))

pub shape_of-cells : goal.shape_of-cells
shape_of-cells c = simp length-set

pub returns-in-Biquad : goal.returns-in-Biquad
unfolding kind_number biquad_number
returns-in-Biquad c =
    let q : is_filter (kind_number c.args.row.kind) ≡ true = search rules in
    rw (c.if-row.true, q, c.from_bits.ensures, quiet-nan)

pub returns-in_default : goal.returns-in_default
unfolding kind_number src_number fold_number biquad_number proc_number val_number
returns-in_default c =
    let q : is_filter (kind_number c.args.row.kind) ≡ false = search rules in
    rw (c.if-row.true, q)

pub returns-else-row : goal.returns-else-row
returns-else-row c = rw c.if-row.false
