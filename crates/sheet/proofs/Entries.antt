-- The table of kinds as the code has it says what the rows of `Kinds` say: one test at each of its 53 entries, which antt computes.
use Rattle.std.specs.Prelude.{◌≡◌, refl, Bool, true, ◌&&◌, ℕ, ◌≤◌, ◌<◌, eqb, leb, Option, Some, None}
use Rattle.std.proofs.Common.{ap, arith, eqb-true, leb-true, slice_index_or}
use Rattle.sheet.specs.Kinds.{lookup, row_of}
use Rattle.sheet.specs.Checks.{all}
use Rattle.sheet.specs.Laws.{both, all-at}
use Rattle.sheet.specs.Numbers.{Numbered, kind_number, src_number, fold_number, biquad_number, proc_number, val_number}
use Rattle.sheet.specs.declared.kinds.Kind.{Kind}
use Rattle.sheet.specs.declared.kinds.Entry.{Entry}
use Rattle.sheet.specs.declared.kinds.TheConstants.{KINDS}

known : (kind : Kind) → 1 ≤ (row_of (kind_number kind)).options
unfolding lookup kind_number src_number fold_number biquad_number proc_number val_number
known kind = grind arith

pub none : (k : ℕ) → (row_of k).options ≡ 0 → Numbered k None
unfolding Numbered
none k e = λ kind h. absurd (omega (arith, known kind, ap (λ n. (row_of n).options) h, e))

right : ℕ → Option Entry → Bool
right k (Some e) = eqb (kind_number e.kind) k && (eqb e.options (row_of k).options && (eqb e.numbers (row_of k).numbers && leb e.numbers 7))
right k None = eqb (row_of k).options 0

all_right : all (λ k. right k (slice_index_or KINDS k None)) 53 ≡ true
unfolding all right lookup kind_number src_number fold_number biquad_number proc_number val_number
all_right = refl

numbered : (k : ℕ) (o : Option Entry) → right k o ≡ true → Numbered k o
unfolding right Numbered
numbered k (Some e) h =
    let a = both (eqb (kind_number e.kind) k) _ h in
    let b = both (eqb e.options (row_of k).options) _ a.1 in
    let d = both (eqb e.numbers (row_of k).numbers) _ b.1 in
    (eqb-true _ _ a.0, eqb-true _ _ b.0, eqb-true _ _ d.0, leb-true _ _ d.1)
numbered k None h = none k (eqb-true _ _ h)

pub entry-is : (k : ℕ) → k < 53 → Numbered k (slice_index_or KINDS k None)
entry-is k h = numbered k _ (all-at (λ k. right k (slice_index_or KINDS k None)) 53 all_right k h)
