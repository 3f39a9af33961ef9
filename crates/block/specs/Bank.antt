-- A bank of units: each works on what those before it have made.
use Rattle.std.specs.Prelude.{◌≡◌, ℕ, zero, suc, ◌+◌}
use Rattle.std.proofs.Common.{sym, ap, ◌∙◌, add-one}

-- the first n units of a bank, one after the other
unfoldable pub units : {S : Type 0} → (S → ℕ → S) → S → ℕ → S
units f s zero = s
units f s (suc n) = f (units f s n) n

pub units-more : {S : Type 0} (f : S → ℕ → S) (s : S) (n : ℕ) → units f s (n + 1) ≡ f (units f s n) n
unfolding units
units-more f s n = rw add-one

-- a turn adds unit k to what the first k have made
pub units-turn : {S : Type 0} (f : S → ℕ → S) (s : S) {n : ℕ} {u v : S} → u ≡ units f s n → v ≡ f u n → v ≡ units f s (n + 1)
units-turn {S} f s {n} e p = p ∙ ap (λ (u : S). f u n) e ∙ sym (units-more f s n)
