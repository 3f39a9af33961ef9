-- Which kinds have a unit of their own, and what the chain of a leaf and of a value holds. How many values a kind has, and the buffers that hold them, is passed on from below.
use Rattle.std.specs.Prelude.{◌≡◌, refl, Bool, false, ◌&&◌, ◌||◌, ◌≢◌, ℕ, suc, ◌≤◌, eqb}
use Rattle.std.proofs.Common.{sym, ap, arith}
use Rattle.std.proofs.Math.Bool.{true, not}
use Rattle.std.proofs.Math.Decide.{dec_lt, ℕ_discrete}
use Rattle.std.proofs.Math.Dec.{leb}
use borrow.Author.Tests.{eqb-true, leb-true, ne_eqb, le-leb}
use Rattle.sheet.specs.Kinds.{Chain, empty, values, nodes, modes, steps, lookup, row_of, is_fold, is_node, is_value}
use Rattle.sheet.specs.Checks.{all}
use Rattle.sheet.specs.Laws.{never, both, all-at}
use Rattle.sheet.specs.Table.{row-past}
use Rattle.unit.specs.Voice.{playing}
pub use Rattle.unit.specs.Buffers.{values_in, values_of, buffers_of}

-- kinds of nodes that play by a unit of their own: sources, processors
abbrev pub has_unit : ℕ → Bool
has_unit k = (leb 1 k && leb k 10) || (leb 21 k && leb k 35)

-- what a leaf's chain may hold, and a value's
abbrev leaf_chain : Chain → Bool
leaf_chain empty = true
leaf_chain (values n) = eqb n 1 || eqb n 2
leaf_chain nodes = false
leaf_chain modes = true
leaf_chain steps = true

abbrev value_chain : Chain → Bool
value_chain empty = true
value_chain (values n) = false
value_chain nodes = false
value_chain modes = false
value_chain steps = true

or_right : (a : Bool) → (a || true) ≡ true
or_right true = refl
or_right false = refl

-- THE TEST of each kind; past the table no kind has a chain
right : ℕ → Bool
right k =
    (is_fold k || eqb k 13 || leaf_chain (row_of k).chain)
    && (not (is_value k) || value_chain (row_of k).chain)

all_right : all right 53 ≡ true
unfolding all right lookup
all_right = refl

right-at : (k : ℕ) → right k ≡ true
unfolding right
right-at k = elim (dec_lt k 53) [
  | yes h ↦ all-at right 53 all_right k h
  | no h ↦ rw (
    row-past k (omega arith),
    or_right (is_fold k || eqb k 13),
    or_right (not (is_value k)),
  )
]

-- a leaf: no Mix, Mul or Chain
pub leaf-chain : (k : ℕ) → is_fold k ≡ false → k ≢ 13 → leaf_chain (row_of k).chain ≡ true
unfolding right
leaf-chain k e d = rw (e, ne_eqb k 13 d) at (both (is_fold k || eqb k 13 || leaf_chain (row_of k).chain) (not (is_value k) || value_chain (row_of k).chain) (right-at k)).0

value-chain : (k : ℕ) → is_value k ≡ true → value_chain (row_of k).chain ≡ true
unfolding right
value-chain k e = rw e at (both (is_fold k || eqb k 13 || leaf_chain (row_of k).chain) (not (is_value k) || value_chain (row_of k).chain) (right-at k)).1

-- ---- by how many values it has
pub record Quiet (c : Chain) : Type 0 where
  pub none : values_in c ≡ 0
  pub plays : (b : ℕ) → (c ≡ empty → b ≡ 0) → playing c b ≡ 0

quiet-value : (c : Chain) → value_chain c ≡ true → Quiet c
quiet-value empty e = record { none = refl; plays = λ b h. h refl }
quiet-value steps e = record { none = refl; plays = λ b h. refl }
quiet-value (values n) e = never (sym e)
quiet-value nodes e = never (sym e)
quiet-value modes e = never (sym e)

pub value-quiet : (k : ℕ) → is_value k ≡ true → Quiet (row_of k).chain
value-quiet k e = quiet-value (row_of k).chain (value-chain k e)

pub leaf-quiet : (c : Chain) → leaf_chain c ≡ true → values_in c ≡ 0 → Quiet c
leaf-quiet empty e z = record { none = refl; plays = λ b h. h refl }
leaf-quiet modes e z = record { none = refl; plays = λ b h. refl }
leaf-quiet steps e z = record { none = refl; plays = λ b h. refl }
leaf-quiet (values n) e z = never (sym (rw z at e))
leaf-quiet nodes e z = never (sym e)

pub leaf-values : (c : Chain) (n : ℕ) → values_in c ≡ suc n → c ≡ values (suc n)
leaf-values empty n z = absurd (omega (arith, z))
leaf-values (values m) n z = ap values z
leaf-values nodes n z = absurd (omega (arith, z))
leaf-values modes n z = absurd (omega (arith, z))
leaf-values steps n z = absurd (omega (arith, z))

-- at most two
pub leaf-most : (c : Chain) → leaf_chain c ≡ true → values_in c ≤ 2
leaf-most empty e = omega arith
leaf-most (values n) e = elim (ℕ_discrete n 1) [
  | yes z ↦ omega arith
  | no d ↦ let q = eqb-true n 2 (rw (ne_eqb n 1 d) at e) in omega arith
]
leaf-most nodes e = never (sym e)
leaf-most modes e = omega arith
leaf-most steps e = omega arith

-- ---- kinds with a unit of their own
pub node-unit : (k : ℕ) → is_node k ≡ true → is_fold k ≡ false → k ≢ 13 → has_unit k ≡ true
node-unit k e f d = go (leb 1 k) (leb k 13) (leb k 10) (leb 21 k && leb k 35) low e
  where
    low : leb 1 k ≡ true → leb k 13 ≡ true → leb k 10 ≡ true
    low p q = elim (dec_lt k 11) [
      | yes h ↦ le-leb k 10 (omega arith)
      | no h ↦
          let m = leb-true k 13 q in
          let n11 : k ≢ 11 = λ z. never (rw z at f) in
          let n12 : k ≢ 12 = λ z. never (rw z at f) in
          let z : ⊥ = omega arith in
          absurd z
    ]

    go : (a b c x : Bool) → (a ≡ true → b ≡ true → c ≡ true) → (a && b) || x ≡ true → (a && c) || x ≡ true
    go true true c x h e = rw (h refl refl)
    go true false c true h e = or_right (true && c)
    go true false c false h e = never (sym e)
    go false b c true h e = refl
    go false b c false h e = never (sym e)
