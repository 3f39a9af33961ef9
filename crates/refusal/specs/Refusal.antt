-- The numbers of the refusals, and of what a call answers: 0 where it is accepted.
use Rattle.std.specs.Prelude.{◌≡◌, ◌≢◌, refl, ℕ, Ok, Err, Result}
use Rattle.std.proofs.Common.{arith}
use Rattle.refusal.specs.declared.Refusal.{Refusal}
use Rattle.refusal.specs.declared.Refusal.TheVariants.{Length, Header, Record, Link, Linked, Chain, Depth, Memory, State, Position}

abbrev pub number_of : Refusal → ℕ
number_of Length = 1
number_of Header = 2
number_of Record = 3
number_of Link = 4
number_of Linked = 5
number_of Chain = 6
number_of Depth = 7
number_of Memory = 8
number_of State = 9
number_of Position = 10

abbrev pub answer_of : {T : Type 0} → Result T Refusal → ℕ
answer_of (Ok x) = 0
answer_of (Err e) = number_of e

-- ---- LAWS: no refusal answers as an accepted call does
pub number-some : (e : Refusal) → number_of e ≢ 0
number-some Length = λ z. omega (arith, z)
number-some Header = λ z. omega (arith, z)
number-some Record = λ z. omega (arith, z)
number-some Link = λ z. omega (arith, z)
number-some Linked = λ z. omega (arith, z)
number-some Chain = λ z. omega (arith, z)
number-some Depth = λ z. omega (arith, z)
number-some Memory = λ z. omega (arith, z)
number-some State = λ z. omega (arith, z)
number-some Position = λ z. omega (arith, z)

pub answer-ok : {T : Type 0} {r : Result T Refusal} {x : T} → r ≡ Ok x → answer_of r ≡ 0
answer-ok e = rw e refl

pub answer-err : {T : Type 0} {r : Result T Refusal} {e : Refusal} → r ≡ Err e → answer_of r ≢ 0
answer-err {e = e} q = λ z. number-some e (rw q at z)

-- what a `?` passes on answers as the call that it comes from
pub passed-on : {T U : Type 0} {r : Result T Refusal} {s : Result U Refusal} {e x : Refusal} → r ≡ Err e → s ≡ Err x → x ≡ e → answer_of s ≡ answer_of r
passed-on p q w = rw (p, q, w) refl
