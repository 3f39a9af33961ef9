-- Which records of an accepted sheet are built. Document 01: a Chain builds only from its last non-processor stage on; a processor where a source is wanted is silence, and it and its chain are not built;
-- values, modes and steps are built with the record that they serve.
use Rattle.std.specs.Prelude.{Bool, true, false, cond, ◌||◌, List, ℕ, zero, suc, eqb}
use Rattle.tree.specs.Tree.{Tree, nil, node}
use Rattle.sheet.specs.Record.{count_of, kind, first, next}
use Rattle.sheet.specs.Kinds.{is_processor, is_fold}
use Rattle.sheet.specs.Tree.{records, spine}
use Rattle.sheet.specs.Checks.{every}
use Rattle.layout.specs.declared.Role.{Role}
use Rattle.layout.specs.declared.Role.TheVariants.{Out, Silent, Built}

-- the lowest i below n of which p holds, and n where there is none
unfoldable pub find : (ℕ → Bool) → ℕ → ℕ
find p zero = zero
find p (suc n) = let r = find p n in cond (eqb r n) (cond (p n) n (suc n)) r

-- the record that a link to j stands in
unfoldable pub linker : List ℕ → ℕ → ℕ
linker s j = find (λ i. eqb (first s i) j || eqb (next s i) j) (count_of s)

-- The record in whose chain j stands: the one whose first leads to j, or the owner of the one whose next does. Links climb, so j steps are enough.
unfoldable pub owner_by : List ℕ → ℕ → ℕ → ℕ
owner_by s zero j = 0
owner_by s (suc n) j = let i = linker s j in let up = owner_by s n i in cond (eqb (first s i) j) i up

unfoldable pub owner : List ℕ → ℕ → ℕ
owner s j = owner_by s j j

-- whether every stage of a chain is a processor; j and what stands after it are the end of a Chain that is built where every stage after j is one
unfoldable pub processors : List ℕ → Tree → Bool
processors s t = every (λ j. is_processor (kind s j)) (spine t)

unfoldable pub trailing : List ℕ → ℕ → Bool
trailing s j = processors s (records s (next s j))

-- by the role of the record in whose chain it stands, and that record's kind
unfoldable pub role_in : Role → ℕ → Bool → Bool → Role
role_in Out k processor last = Out
role_in Silent k processor last = Out
role_in Built k processor last = cond (is_fold k) (cond processor Silent Built) (cond (eqb k 13) (cond last Built Out) Built)

-- record 0 is in a source's place; any other record's owner is lower, so j steps are enough
abbrev pub root_role : List ℕ → Role
root_role s = cond (is_processor (kind s 0)) Silent Built

unfoldable pub role_by : List ℕ → ℕ → ℕ → Role
role_by s zero j = root_role s
role_by s (suc n) j = let o = owner s j in let r = role_by s n o in cond (eqb j 0) (root_role s) (role_in r (kind s o) (is_processor (kind s j)) (trailing s j))

unfoldable pub role : List ℕ → ℕ → Role
role s j = role_by s j j

abbrev pub is_built : Role → Bool
is_built Out = false
is_built Silent = false
is_built Built = true

abbrev pub is_played : Role → Bool
is_played Out = false
is_played Silent = true
is_played Built = true

-- the first stage of a chain after which there are processors only, 0 in an empty chain
unfoldable pub stage : List ℕ → Tree → ℕ
stage s nil = 0
stage s (node j a b) = let rest = stage s b in cond (processors s b) j rest

-- The links of what is played: a built record's chain, a Chain's from its source stage on, and the next of every record that is played
unfoldable pub begin : List ℕ → ℕ → ℕ
begin s i = cond (is_built (role s i)) (cond (eqb (kind s i) 13) (stage s (records s (first s i))) (first s i)) 0

unfoldable pub after : List ℕ → ℕ → ℕ
after s i = cond (is_played (role s i)) (next s i) 0
