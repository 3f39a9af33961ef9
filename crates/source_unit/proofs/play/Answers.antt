use mathlib.Core.Path.{refl, sym, ap, ◌∙◌}
use native.Mathlib.Omega.{arith}
use Rattle.dsl.specs.Options.{noise_color_of}
use Rattle.sheet.specs.Record.{option_of}
use Rattle.sheet.specs.Kinds.{lookup}
use Rattle.sheet.specs.Numbers.{src_number}
use Rattle.layout.specs.Needs.{need_of}
use Rattle.unit.specs.Sources.{source_unit}
use Rattle.unit.specs.Lent.{lent-cells, lent-registers}
use Rattle.source_unit.specs.Laws.{source-is, color_cells, color-cells}
use Rattle.source_unit.proofs.play.Goals as goal

pub sine-requires : goal.sine-requires
unfolding need_of src_number lookup
sine-requires c = (((c.requires.first (rw c.in-Sine.is (omega arith))).0, (c.requires.first (rw c.in-Sine.is (omega arith))).1.long), lent-cells c.requires.lent 1 (ap src_number c.in-Sine.is))

pub square-requires : goal.square-requires
unfolding need_of src_number lookup
square-requires c = (((c.requires.first (rw c.in-Square.is (omega arith))).0, (c.requires.first (rw c.in-Square.is (omega arith))).1.long), c.requires.second (rw c.in-Square.is (omega arith)), lent-cells c.requires.lent 2 (ap src_number c.in-Square.is))

pub saw-requires : goal.saw-requires
unfolding need_of src_number lookup
saw-requires c = (((c.requires.first (rw c.in-Sawtooth.is (omega arith))).0, (c.requires.first (rw c.in-Sawtooth.is (omega arith))).1.long), lent-cells c.requires.lent 3 (ap src_number c.in-Sawtooth.is))

pub triangle-requires : goal.triangle-requires
unfolding need_of src_number lookup
triangle-requires c = (((c.requires.first (rw c.in-Triangle.is (omega arith))).0, (c.requires.first (rw c.in-Triangle.is (omega arith))).1.long), lent-cells c.requires.lent 4 (ap src_number c.in-Triangle.is))

pub fm-requires : goal.fm-requires
unfolding need_of src_number lookup
fm-requires c = (((c.requires.first (rw c.in-Fm.is (omega arith))).0, (c.requires.first (rw c.in-Fm.is (omega arith))).1.long), c.requires.second (rw c.in-Fm.is (omega arith)), lent-cells c.requires.lent 5 (ap src_number c.in-Fm.is))

pub super_voices-requires : goal.super_voices-requires
unfolding need_of src_number lookup
super_voices-requires c = (((c.requires.first (rw c.in-Super.is (omega arith))).0, (c.requires.first (rw c.in-Super.is (omega arith))).1.long), rw (c.at-r.ensures) (lent-cells c.requires.lent 6 (ap src_number c.in-Super.is)))

pub noise-requires : goal.noise-requires
unfolding need_of src_number
noise-requires c = (lent-cells c.requires.lent 9 (ap src_number c.in-Noise.is) ∙ color-cells _ ∙ sym (ap color_cells (c.from.ensures ∙ ap noise_color_of (c.option.ensures ∙ ap option_of (c.at-r.ensures)))), lent-registers c.requires.lent 9 (ap src_number c.in-Noise.is))

pub dust-requires : goal.dust-requires
unfolding need_of src_number
dust-requires c = (lent-cells c.requires.lent 10 (ap src_number c.in-Dust.is), lent-registers c.requires.lent 10 (ap src_number c.in-Dust.is))

pub returns-in-Sine : goal.returns-in-Sine
unfolding source_unit src_number lookup
returns-in-Sine c =
    let q = c.sine.ensures c.args.c c.args.regs.now (c.requires.first (rw c.in-Sine.is (omega arith))).1 in
    rw (source-is _ c.requires.lent, c.in-Sine.is) (rw c.srf_of-srf.ensures at q)

pub returns-in-Square : goal.returns-in-Square
unfolding source_unit src_number lookup
returns-in-Square c =
    let q = c.square.ensures c.args.c c.args.regs.now (c.requires.first (rw c.in-Square.is (omega arith))).1 in
    rw (source-is _ c.requires.lent, c.in-Square.is) (rw c.srf_of-srf.ensures at q)

pub returns-in-Sawtooth : goal.returns-in-Sawtooth
unfolding source_unit src_number lookup
returns-in-Sawtooth c =
    let q = c.saw.ensures c.args.c c.args.regs.now (c.requires.first (rw c.in-Sawtooth.is (omega arith))).1 in
    rw (source-is _ c.requires.lent, c.in-Sawtooth.is) (rw c.srf_of-srf.ensures at q)

pub returns-in-Triangle : goal.returns-in-Triangle
unfolding source_unit src_number lookup
returns-in-Triangle c =
    let q = c.triangle.ensures c.args.c c.args.regs.now (c.requires.first (rw c.in-Triangle.is (omega arith))).1 in
    rw (source-is _ c.requires.lent, c.in-Triangle.is) (rw c.srf_of-srf.ensures at q)

pub returns-in-Fm : goal.returns-in-Fm
unfolding source_unit src_number lookup
returns-in-Fm c =
    let q = c.fm.ensures c.args.c c.args.regs.now (c.requires.first (rw c.in-Fm.is (omega arith))).1 in
    rw (source-is _ c.requires.lent, c.in-Fm.is) (rw (c.srf_of-srf.ensures, c.number.ensures, c.at-r.ensures) at q)

pub returns-in-Super : goal.returns-in-Super
unfolding source_unit src_number lookup
returns-in-Super c =
    let q = c.super_voices.ensures c.args.c c.args.regs.now (c.requires.first (rw c.in-Super.is (omega arith))).1 in
    rw (source-is _ c.requires.lent, c.in-Super.is) (rw (c.srf_of-srf.ensures, c.at-r.ensures) at q)

pub returns-in-Impact : goal.returns-in-Impact
unfolding source_unit src_number lookup
returns-in-Impact c =
    let q = c.impact.ensures c.args.cells.now c.args.regs.now in
    rw (source-is _ c.requires.lent, c.in-Impact.is) (rw (c.srf_of-srf.ensures, c.at-r.ensures) at q)

pub returns-in-Env : goal.returns-in-Env
unfolding source_unit src_number lookup
returns-in-Env c =
    let q = c.env.ensures c.args.cells.now c.args.regs.now in
    rw (source-is _ c.requires.lent, c.in-Env.is) (rw (c.srf_of-srf.ensures, c.length.ensures, c.at-r.ensures) at q)

pub returns-in-Noise : goal.returns-in-Noise
unfolding source_unit src_number lookup
returns-in-Noise c =
    let q = c.noise.ensures c.args.c in
    rw (source-is _ c.requires.lent, c.in-Noise.is) (rw (c.from.ensures, c.option.ensures, c.at-r.ensures) at q)

pub returns-in-Dust : goal.returns-in-Dust
unfolding source_unit src_number lookup
returns-in-Dust c =
    let q = c.dust.ensures c.args.c in
    rw (source-is _ c.requires.lent, c.in-Dust.is) (rw (c.srf_of-srf.ensures, c.at-r.ensures) at q)

pub impact-requires : goal.impact-requires
unfolding src_number lookup
impact-requires c = c.requires.position (rw c.in-Impact.is refl)

pub env-requires : goal.env-requires
unfolding src_number lookup
env-requires c = c.requires.position (rw c.in-Env.is refl)
