use mathlib.Core.Path.{◌≡◌}
use Prim.Native.Nat.{◌*◌, ◌≤◌}
use lib.ListN.{length}
use Rattle.layout.specs.Needs.{cells_from, registers_from, scratch_from}
use Rattle.layout.specs.Tables.{Below}
use Rattle.offsets.proofs.offsets.Given as goal

abbrev pub invariant-loop-i : goal.invariant-loop-i
invariant-loop-i l =
    let s = l.links.sheet.now in
    (l.i ≤ l.links.count) × (length l.places ≡ length l.initial.places) × (length l.words ≡ length l.initial.words) × (length l.blocks ≡ length l.initial.blocks) × (l.c ≤ 5760000 * l.i) × (l.r ≤ 11 * l.i) × (l.s ≤ 256 * l.i)
    × (l.c ≡ cells_from s l.i) × (l.r ≡ registers_from s l.i) × (l.s ≡ scratch_from s l.i) × Below (cells_from s) l.i l.places × Below (registers_from s) l.i l.words × Below (scratch_from s) l.i l.blocks
