-- `shape::too_deep` meets its contract. Assumes nothing.
use mathlib.Core.Path.{sym, ap, ◌∙◌}
use native.Mathlib.Omega.{arith}
use lib.ListN.{length}
use borrow.Author.Tests.{le-ltb}
use Rattle.sheet.specs.Checks.{sum}
use Rattle.std.proofs.lemmas.List.{length-map}
use Rattle.sheet.specs.Links.{at, nodes_at, depth_in}
use Rattle.sheet.specs.Numbers.{kind_number, numbers_of}
use Rattle.sheet.specs.LinkLaws.{depth_most, depth-nodes, first_below}
use Rattle.shape.proofs.too_deep.Goals as goal

pub returns-then-t-le16 : goal.returns-then-t-le16
returns-then-t-le16 c =
    let a = c.args in
    let fs = a.t.now.first.now in
    let m = depth_most (at (numbers_of a.t.now.kinds.now)) (at fs) (at a.t.now.next.now) (length fs) (at fs 0) in
    sym (le-ltb 15 (depth_in (numbers_of a.t.now.kinds.now) fs a.t.now.next.now (at fs 0)) (omega arith))

pub returns-then-node_count-lt16 : goal.returns-then-node_count-lt16
returns-then-node_count-lt16 c =
    let a = c.args in
    let l = a.t.now.linked in
    let fs = a.t.now.first.now in
    let m = depth-nodes l.linked (at (numbers_of a.t.now.kinds.now)) (at fs 0) (first_below l.linked.links c.requires 0) in
    sym (le-ltb 15 (depth_in (numbers_of a.t.now.kinds.now) fs a.t.now.next.now (at fs 0))
    (omega (arith, m, c.node_count.ensures ∙ ap (sum (nodes_at (at (numbers_of a.t.now.kinds.now)))) (sym (length-map a.t.now.kinds.now kind_number) ∙ l.kinds_long), c.if-node_count-lt16.true)))

pub deeper-requires : goal.deeper-requires
deeper-requires c = first_below c.args.t.now.linked.linked.links c.requires 0
