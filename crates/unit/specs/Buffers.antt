-- How many values a kind has, and the buffers that hold them.
use Rattle.std.specs.Prelude.{List, [], ◌∷◌, ℕ, zero, suc, Float}
use Rattle.sheet.specs.Kinds.{Chain, empty, values, nodes, modes, steps, row_of}

abbrev pub values_in : Chain → ℕ
values_in empty = 0
values_in (values n) = n
values_in nodes = 0
values_in modes = 0
values_in steps = 0

abbrev pub values_of : ℕ → ℕ
values_of k = values_in (row_of k).chain

-- the first m of two buffers
abbrev pub buffers_of : ℕ → List Float → List Float → List (List Float)
buffers_of zero v w = []
buffers_of (suc zero) v w = v ∷ []
buffers_of (suc (suc m)) v w = v ∷ w ∷ []
