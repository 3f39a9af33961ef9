-- The digits of a float above zero, by its bit pattern: the low 23, and the leading one where the exponent's field is not 0.
use Rattle.std.specs.Prelude.{ℕ, ◌+◌, ◌/◌, ◌%◌, ◌^◌, cond, eqb}

abbrev pub digits_of : ℕ → ℕ
digits_of b = cond (eqb (b / 2 ^ 23) 0) (b % 2 ^ 23) (2 ^ 23 + b % 2 ^ 23)
