-- Laws of kinds and of roles by their numbers. No function asks for them since a kind and a role are enums; they stand since the definitions are over numbers.
use Rattle.std.specs.Prelude.{◌≡◌, refl, Bool, true, false, cond, List, ◌≢◌, ℕ, ◌≤◌, ◌<◌}
use Rattle.std.proofs.Common.{ap, arith, ne_eqb}
use Rattle.sheet.specs.Record.{kind}
use Rattle.unit.specs.Own.{Own}
use Rattle.unit.specs.State.{own_ok, record_ok}
use Rattle.layout.specs.Built.{role, is_built}
use Rattle.layout.specs.declared.Role.{Role}
use Rattle.layout.specs.declared.Role.TheVariants.{Out, Silent, Built}
use Rattle.layout.specs.Tables.{role_code}

-- ---- roles by their codes
pub role-built : (s : List ℕ) (i r : ℕ) → r ≡ role_code (role s i) → 2 ≤ r → role s i ≡ Built
role-built s i r e h = go (role s i) e
  where
    go : (q : Role) → r ≡ role_code q → q ≡ Built
    go Out e = let x : ⊥ = omega arith in absurd x
    go Silent e = let x : ⊥ = omega arith in absurd x
    go Built e = refl

pub role-unbuilt : (s : List ℕ) (i r : ℕ) → r ≡ role_code (role s i) → r < 2 → is_built (role s i) ≡ false
role-unbuilt s i r e h = go (role s i) e
  where
    go : (q : Role) → r ≡ role_code q → is_built q ≡ false
    go Out e = refl
    go Silent e = refl
    go Built e = let x : ⊥ = omega arith in absurd x

-- what holds where a record is built
pub on-built : {A : Type 0} (s : List ℕ) (i r : ℕ) → r ≡ role_code (role s i) → 2 ≤ r → (x y : A) → cond (is_built (role s i)) x y ≡ x
on-built {A} s i r e h x y = ap (λ b. cond (is_built b) x y) (role-built s i r e h)

-- ---- the kinds that check 9 doesn't look at
pub unchecked : (s : List ℕ) (i k : ℕ) (o : Own) → k ≡ kind s i → k ≢ 29 → k ≢ 30 → k ≢ 34 → k ≢ 46 → own_ok s i o ≡ true
unfolding own_ok
unchecked s i k o e a b c d = rw (← e, ne_eqb k 29 a, ne_eqb k 34 c, ne_eqb k 30 b, ne_eqb k 46 d)

-- of a kind below 29, built or not
pub record-unchecked : (s : List ℕ) (i k : ℕ) (o : Own) → k ≡ kind s i → k < 29 → record_ok s o i ≡ true
record-unchecked s i k o e h = go (is_built (role s i)) _ (unchecked s i k _ e (omega arith) (omega arith) (omega arith) (omega arith))
  where
    go : (b c : Bool) → c ≡ true → cond b c true ≡ true
    go true c e = e
    go false c e = refl
