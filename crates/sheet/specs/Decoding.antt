-- Checks 3 and 4, record by record. THE INVARIANT of a loop that fills the tables: below i they hold the records' kinds, where the number is a kind's, and links, and two tests say whether every record below i passed, and every link.
use Rattle.std.specs.Prelude.{◌≡◌, refl, Bool, true, List, ℕ, ◌+◌, ◌<◌, length, get_or, set}
use Rattle.std.proofs.Math.Path.{sym, ap, ap₂}
use Rattle.std.proofs.Common.{◌∙◌, arith}
use Rattle.std.proofs.Math.Bool.{cond, ◌&&◌}
use Rattle.std.proofs.Math.Decide.{ℕ_discrete}
use Rattle.sheet.specs.Record as of
use Rattle.sheet.specs.Checks.{all, record_ok, links_ok, lowest}
use Rattle.sheet.specs.Links.{links_at, Decoded}
use Rattle.sheet.specs.Laws.{all-suc}
use Rattle.sheet.specs.Numbers.{kind_number}
use Rattle.sheet.specs.declared.kinds.Kind.{Kind}
use Rattle.sheet.specs.Below.{Below, below-start, below-turn}

abbrev right : List ℕ → ℕ → Bool
right s i = record_ok (of.record_at s i)

pub record Read (s fs₀ ns₀ ks fs ns : List ℕ) (records links : Bool) (i : ℕ) : Type 0 where
  pub kind_at : (k : ℕ) → k < i → (kind : Kind) → kind_number kind ≡ of.kind s k → get_or ks k 0 ≡ of.kind s k
  pub first_in : Below (of.first s) fs₀ fs i
  pub next_in : Below (of.next s) ns₀ ns i
  pub records_is : records ≡ all (right s) i
  pub links_is : links ≡ all (links_ok s) i

pub read-start : (s ks fs ns : List ℕ) → Read s fs ns ks fs ns true true 0
unfolding all
read-start s ks fs ns = record { kind_at = λ k h kind e. let x : ⊥ = omega arith in absurd x; first_in = below-start _ fs; next_in = below-start _ ns; records_is = refl; links_is = refl }

module _ {s fs₀ ns₀ ks fs ns : List ℕ} {records links : Bool} {i : ℕ} (l : Read s fs₀ ns₀ ks fs ns records links i) where
  -- the table of kinds keeps what stands below, and gets the record's kind
  pub read-turn : {js : List ℕ} → ((k : ℕ) → k < i → get_or js k 0 ≡ get_or ks k 0) → ((kind : Kind) → kind_number kind ≡ of.kind s i → get_or js i 0 ≡ of.kind s i)
      → i < length fs₀ → i < length ns₀
      → {n f x : ℕ} → n ≡ of.count_of s → f ≡ of.first s i → x ≡ of.next s i
      → {a b : Bool} → a ≡ record_ok (of.record_at s i) → b ≡ links_at n i f x
      → Read s fs₀ ns₀ js (set fs i f) (set ns i x) (records && a) (links && b) (i + 1)
  unfolding links_at links_ok
  read-turn kept here hf hn en ef ex ea eb = record {
    kind_at = λ k g kind e. elim (ℕ_discrete k i) [
      | yes q ↦ rw q (here kind (rw q at e))
      | no d ↦ kept k (omega arith) ∙ l.kind_at k (omega arith) kind e
    ];
    first_in = below-turn l.first_in hf ef;
    next_in = below-turn l.next_in hn ex;
    records_is = ap₂ ◌&&◌ l.records_is ea ∙ sym (all-suc (right s) i);
    links_is = ap₂ ◌&&◌ l.links_is (eb ∙ rw (en, ef, ex)) ∙ sym (all-suc (links_ok s) i);
  }

  pub read_done : i ≡ of.count_of s → {r : ℕ} → cond records (cond links 0 4) 3 ≡ r → Decoded s ks fs ns r
  unfolding lowest
  read_done d q = record {
    answer = sym q ∙ ap₂ (λ (a b : Bool). cond a (cond b 0 4) 3) (l.records_is ∙ ap (all (right s)) d) (l.links_is ∙ ap (all (links_ok s)) d);
    kind_at = λ k h kind e. l.kind_at k (omega arith) kind e;
    first_at = λ k h. l.first_in.is k (omega arith);
    next_at = λ k h. l.next_in.is k (omega arith);
  }
