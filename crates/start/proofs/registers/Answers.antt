use mathlib.Core.Path.{◌≡◌, sym, ap, ◌∙◌}
use mathlib.Core.List.{[], ◌∷◌}
use lib.ListN.{replicate}
use Rattle.std.specs.Prelude.{true, false, ◌||◌, eqb}
use Rattle.std.proofs.Common.{rules}
use Rattle.rng.specs.Random.{stepped, seed_of}
use Rattle.sheet.specs.Numbers.{kind_number, src_number, fold_number, biquad_number, proc_number, val_number}
use Rattle.layout.specs.Needs.{need_of, registers_by}
use Rattle.unit.specs.Start.{rand_word, start_registers}
use Rattle.start.specs.Cells.{val-at, seeding, path-registers, zero-registers}
use Rattle.start.proofs.registers.Goals as goal

pub seed_register-requires : goal.seed_register-requires
unfolding kind_number src_number
seed_register-requires c =
    let q : eqb (kind_number c.args.k) 9 || eqb (kind_number c.args.k) 10 ≡ true = search rules in
    c.requires.4 ∙ (path-registers c.args.sheet.now c.args.i c.requires.3 c.requires.1 q).1

pub rand_register-requires : goal.rand_register-requires
unfolding registers_by need_of val_number
rand_register-requires c =
    c.requires.4 ∙ rw (val-at c.requires.1 c.in-Val-Rand.is (rw c.in-Val-Rand.is at c.in-Val-Rand.field-0-is))

pub returns-in-Src-Noise : goal.returns-in-Src-Noise
unfolding kind_number src_number
returns-in-Src-Noise c =
    let q : eqb (kind_number c.args.k) 9 || eqb (kind_number c.args.k) 10 ≡ true = search rules in
    c.seed_register.ensures ∙ ap (λ w. seed_of w ∷ []) c.requires.2 ∙ sym (path-registers c.args.sheet.now c.args.i c.requires.3 c.requires.1 q).0

pub returns-in-Val-Rand : goal.returns-in-Val-Rand
unfolding start_registers val_number
returns-in-Val-Rand c =
    c.rand_register.ensures ∙ ap (λ r. stepped (stepped (rand_word r)) ∷ []) c.at.ensures
    ∙ rw (val-at c.requires.1 c.in-Val-Rand.is (rw c.in-Val-Rand.is at c.in-Val-Rand.field-0-is))

pub returns-in_default : goal.returns-in_default
unfolding kind_number src_number fold_number biquad_number proc_number val_number
returns-in_default c =
    let q : seeding (kind_number c.args.k) ≡ false = search rules in
    c.fill.ensures.after (λ y h. h) ∙ ap (λ n. replicate n 0) c.requires.4 ∙ sym (zero-registers c.args.sheet.now c.args.i c.requires.3 c.requires.1 q)
