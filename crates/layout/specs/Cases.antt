-- Worked sheets, by computation: document 01's, and one in which a stage, an input and the chain of each are left out.
use Rattle.std.specs.Prelude.{◌≡◌, refl, List, ◌∷◌, ◌++◌, ℕ, replicate}
use Rattle.sheet.specs.Kinds.{lookup}
use Rattle.sheet.specs.Tree.{spine, depth}
use Rattle.sheet.specs.Checks.{all, every, length_ok, header_ok, record_ok, link_ok, links_ok, hit, sum, links_to, once_ok, holds, chain_ok, depth_ok, lowest, check_of}
use Rattle.tree.specs.Forest.{whole, root}
use Rattle.layout.specs.Built.{find, linker, owner_by, owner, processors, trailing, role_in, role_by, role, stage, begin, after}
use Rattle.layout.specs.declared.Role.TheVariants.{Out, Silent, Built}
use Rattle.layout.specs.Needs.{need_of, cells_by, registers_by, scratch_by, cells_from, registers_from, scratch_from}

-- rate 8,000, n 0, path 0; a record by its kind, first and next, all else zero
header : ℕ → List ℕ
header n = n ∷ 0 ∷ 0 ∷ 0 ∷ 64 ∷ 31 ∷ 0 ∷ 0 ∷ replicate 16 0

entry : ℕ → ℕ → ℕ → List ℕ
entry k f n = k ∷ 0 ∷ f ∷ 0 ∷ n ∷ 0 ∷ replicate 34 0

-- Chain (first 1), Mul (next 2), Gain (first 3), Const
worked : List ℕ
worked = header 4 ++ entry 13 1 0 ++ entry 12 0 2 ++ entry 21 3 0 ++ entry 41 0 0

worked-accepted : check_of worked ≡ 0
unfolding worked header entry check_of lowest all every length_ok header_ok record_ok lookup link_ok links_ok hit sum links_to once_ok holds chain_ok depth_ok spine depth whole root
worked-accepted = refl

worked-scratch : scratch_from worked 4 ≡ 256
unfolding worked header entry sum find linker owner_by owner every processors trailing role_in role_by role stage spine whole need_of scratch_by
worked-scratch = refl

-- Mix of a Gain, which is silent with its Const, and of a Chain (first 4) of Noise, which is left out, Sine and Lowpass, each with a Const
partly : List ℕ
partly = header 9 ++ entry 11 1 0 ++ entry 21 2 3 ++ entry 41 0 0 ++ entry 13 4 0 ++ entry 9 0 5 ++ entry 1 6 7 ++ entry 41 0 0 ++ entry 22 8 0 ++ entry 41 0 0

partly-accepted : check_of partly ≡ 0
unfolding partly header entry check_of lowest all every length_ok header_ok record_ok lookup link_ok links_ok hit sum links_to once_ok holds chain_ok depth_ok spine depth whole root
partly-accepted = refl

partly-roles : (role partly 1 ≡ Silent) × (role partly 2 ≡ Out) × (role partly 4 ≡ Out) × (role partly 8 ≡ Built)
unfolding partly header entry find linker owner_by owner every processors trailing role_in role_by role spine whole
partly-roles = (refl, refl, refl, refl)

partly-links : (begin partly 3 ≡ 5) × (begin partly 1 ≡ 0) × (after partly 1 ≡ 3) × (after partly 4 ≡ 0)
unfolding partly header entry find linker owner_by owner every processors trailing role_in role_by role spine whole stage begin after
partly-links = (refl, refl, refl, refl)

partly-needs : (cells_from partly 9 ≡ 12) × (registers_from partly 9 ≡ 0) × (scratch_from partly 9 ≡ 256)
unfolding partly header entry sum find linker owner_by owner every processors trailing role_in role_by role stage spine whole need_of cells_by registers_by scratch_by
partly-needs = (refl, refl, refl)
