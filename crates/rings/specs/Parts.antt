-- Where a record's part lies, what a cutoff move does to a record, and a part laid at the end of what is written.
use Rattle.std.specs.Prelude.{◌≡◌, refl, Bool, false, cond, ◌&&◌, List, [], ◌∷◌, ◌++◌, ℕ, ◌+◌, ◌-◌, ◌≤◌, ◌<◌, length, take, drop, set, Float}
use Rattle.std.proofs.Common.{sym, ap, ◌∙◌, append_assoc, arith, add-one, take_at, drop_at, drop-drop}
use Rattle.std.specs.Float.{nan}
use borrow.Rule.Slice.PartMut.{mid_of, put_mid, mid_len, same_len_mid}
use Rattle.sheet.specs.Record.{count_of, kind}
use Rattle.sheet.specs.Checks.{sum}
use Rattle.sheet.specs.Laws.{sum-suc}
use Rattle.layout.specs.Built.{role, is_built}
use Rattle.layout.specs.declared.Role.TheVariants.{Built}
use Rattle.layout.specs.Needs.{cells, registers, cells_from}
use Rattle.layout.specs.Counts.{sum-above, cells-built}
use Rattle.plan.specs.declared.Row.{Row}
use Rattle.plan.specs.Rowed.{Rowed}
use Rattle.unit.specs.Laws.{filter-need}
use Rattle.machine.specs.Machine.{is_filter, scaled}
use Rattle.machine.specs.Build.{joined}
use Rattle.machine.proofs.Build.{joined_length}

-- one that is not built owns nothing and brings nothing
pub not-brought : {A : Type 0} (b : Bool) (n : ℕ) (l own : List A) → b ≡ false → length own ≡ cond b n 0 → own ≡ cond b l []
not-brought b n l [] e h = ap (λ b. cond b l []) (sym e)
not-brought b n l (x ∷ own) e h = let z : ⊥ = omega (arith, ap (λ b. cond b n 0) e) in absurd z

-- ---- the part of record i, from a to e: what it needs lies above what the records below it need
pub record Part (f : ℕ → ℕ) (n i a e : ℕ) : Type 0 where
  pub from : a ≡ sum f i
  pub next : e ≡ sum f (i + 1)
  pub to : e ≡ a + f i
  pub size : e - a ≡ f i
  pub ends : e ≤ sum f n

pub part_of : (f : ℕ → ℕ) (n : ℕ) {i : ℕ} → i < n → {a e : ℕ} → a ≡ sum f i → e ≡ sum f (i + 1) → Part f n i a e
part_of f n {i} h p q =
    let d = sum-suc f i in
    record { from = p; next = q; to = omega arith; size = omega arith; ends = omega (arith, sum-above f n i h) }

-- by the record's row
pub cells_part : {s : List ℕ} {i : ℕ} {r : Row} → Rowed s i r → i < count_of s → Part (cells s) (count_of s) i r.cells r.cells_end
cells_part {s} w h = part_of (cells s) (count_of s) h w.cells_is w.cells_end_is

pub registers_part : {s : List ℕ} {i : ℕ} {r : Row} → Rowed s i r → i < count_of s → Part (registers s) (count_of s) i r.registers r.registers_end
registers_part {s} w h = part_of (registers s) (count_of s) h w.registers_is w.registers_end_is

-- the part as a slice
pub part-is : {A : Type 0} {f : ℕ → ℕ} {n i a e : ℕ} → Part f n i a e → (l : List A) → mid_of a (e - a) l ≡ take (f i) (drop (sum f i) l)
part-is p l = rw (p.size, p.from)

pub part_length : {A : Type 0} {f : ℕ → ℕ} {n i a e : ℕ} → Part f n i a e → (l : List A) → sum f n ≤ length l → length (mid_of a (e - a) l) ≡ f i
part_length {a = a} {e = e} p l h = mid_len a e l (omega (arith, p.ends)) ∙ p.size

-- ---- the cutoff move, record by record
pub scaled-turn : (s : List ℕ) (x : Float) (i at k : ℕ) (b : Bool) (cs ds es : List Float) → b ≡ is_built (role s i) → k ≡ kind s i → at ≡ cells_from s i → ds ≡ scaled s x i cs
    → es ≡ cond (b && is_filter k) (set (set ds at x) (at + 1) nan) ds → es ≡ scaled s x (i + 1) cs
unfolding scaled
scaled-turn s x i at k b cs ds es eb ek et ed ee = ee ∙ rw (add-one i, eb, ek, et, ed)

pub scaled-none : (s : List ℕ) (x : Float) (cs : List Float) → cs ≡ scaled s x 0 cs
unfolding scaled
scaled-none s x cs = refl

-- a built filter has two cells at least
pub filter-room : (s : List ℕ) (i n k at : ℕ) → i < n → role s i ≡ Built → k ≡ kind s i → at ≡ cells_from s i → (m : ℕ) → cells_from s n ≤ m → 22 ≤ k → k ≤ 28 → at + 2 ≤ m
filter-room s i n k at h r ek et m room low high =
    omega (arith, sum-above (cells s) n i h, cells-built s i r, filter-need s i (omega arith) (omega arith))

-- ---- what is written so far, and the next record's part
joined-turn : {A : Type 0} (f : ℕ → List A) (i a e : ℕ) (l xs ys : List A) → length (joined f i) ≡ a → a ≤ e → xs ≡ joined f i ++ drop a l → ys ≡ f i → length ys ≡ e - a
    → put_mid a (e - a) xs ys ≡ joined f (i + 1) ++ drop e l
unfolding joined
joined-turn f i a e l xs ys la h ex ey ly =
    let q : a + (e - a) ≡ e = omega arith in
    ap (λ xs. put_mid a (e - a) xs ys) ex
    ∙ ap (λ front. front ++ (ys ++ drop (e - a) (drop a (joined f i ++ drop a l)))) (take_at (joined f i) (drop a l) a la)
    ∙ ap (λ back. joined f i ++ (ys ++ drop (e - a) back)) (drop_at (joined f i) (drop a l) a la)
    ∙ ap (λ back. joined f i ++ (ys ++ back)) (drop-drop (e - a) a l ∙ ap (λ n. drop n l) q)
    ∙ sym (append_assoc (joined f i) ys (drop e l))
    ∙ rw (add-one i, ey)

pub started-turn : {A : Type 0} (f : ℕ → List A) {size : ℕ → ℕ} {n i a e : ℕ} → Part size n i a e → ((j : ℕ) → length (f j) ≡ size j)
    → (l xs ys : List A) → length xs ≡ length l → sum size n ≤ length l → xs ≡ joined f i ++ drop (sum size i) l → ys ≡ f i
    → let r = put_mid a (e - a) xs ys in (length r ≡ length l) × (r ≡ joined f (i + 1) ++ drop (sum size (i + 1)) l)
started-turn f {size} {n} {i} {a} {e} p h l xs ys lx room ex ey =
    let ly : length ys ≡ size i = ap length ey ∙ h i in (
      same_len_mid a (e - a) xs ys (ly ∙ sym (part_length p xs (omega arith))) ∙ lx,
      joined-turn f i a e l xs ys (joined_length f size i (λ j b. h j) ∙ sym p.from) (omega (arith, p.to)) (ex ∙ ap (λ a. joined f i ++ drop a l) (sym p.from)) ey (ly ∙ sym p.size)
          ∙ ap (λ e. joined f (i + 1) ++ drop e l) p.next,
    )

pub joined-none : {A : Type 0} (f : ℕ → List A) (l : List A) → l ≡ joined f 0 ++ drop 0 l
unfolding joined
joined-none f l = refl
