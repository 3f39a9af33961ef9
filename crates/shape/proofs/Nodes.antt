-- Whether a record is a node, by its kind in the table.
use Rattle.std.specs.Prelude.{◌≡◌, List, ℕ, ◌<◌, length, get_or}
use Rattle.std.proofs.Common.{ap, arith}
use Rattle.std.proofs.lemmas.List.{length-map}
use Rattle.sheet.specs.Kinds.{is_node}
use Rattle.sheet.specs.Laws.{number-at}
use Rattle.sheet.specs.Links.{at}
use Rattle.sheet.specs.Numbers.{kind_number, numbers_of}
use Rattle.sheet.specs.declared.kinds.Kind.{Kind}

pub node-at : (ks : List Kind) (j : ℕ) (d : Kind) {n : ℕ} → length (numbers_of ks) ≡ n → j < n → is_node (at (numbers_of ks) j) ≡ is_node (kind_number (get_or ks j d))
node-at ks j d e h = ap is_node (number-at ks j d (omega (arith, length-map ks kind_number)))
