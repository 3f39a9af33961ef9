use Rattle.std.specs.Prelude.{◌≡◌, refl, Bool, true, false, cond, ℕ, ◌+◌, ◌≤◌, length}
use mir.Val.{bool_byte}
use Rattle.std.proofs.Common.{sym, ap, ap₂, ◌∙◌, arith}
-- Invariants.antt names some of these too: it states the invariant, and here the laws about it are cited.
use Rattle.sheet.specs.Checks.{sum}
use Rattle.sheet.specs.Links.{at, nodes_at}
use Rattle.std.proofs.lemmas.List.{length-map}
use Rattle.sheet.specs.Numbers.{kind_number, numbers_of}
use Rattle.shape.proofs.Nodes.{node-at}
use Rattle.sheet.specs.Laws.{sum-suc}
use Rattle.shape.proofs.node_count.Goals as goal

one : (m : ℕ) (b : Bool) → m ≡ bool_byte b → (m ≡ cond b 1 0) × (m ≤ 1)
one m true e = (e, omega arith)
one m false e = (e, omega arith)

pub loop-i-init : goal.loop-i-init
unfolding sum
loop-i-init c = (omega arith, refl)

pub overflow_add-n : goal.overflow_add-n
overflow_add-n c = omega (arith, (one _ c.is_node.result c.from-n.ensures).1)

pub loop-i-preserved : goal.loop-i-preserved
loop-i-preserved c =
    let l = c.loop-i in
    let e = one _ c.is_node.result c.from-n.ensures in
    (omega (arith, e.1), ap₂ ◌+◌ l.invariant.1 (e.0 ∙ ap (λ (b : Bool). cond b 1 0) (c.is_node.ensures ∙ sym (node-at c.args.kinds.now l.i _ (length-map c.args.kinds.now kind_number) (omega arith)))) ∙ sym (sum-suc (nodes_at (at (numbers_of c.args.kinds.now))) l.i))

pub returns : goal.returns
returns c =
    let l = c.loop-i in
    let ks = c.args.kinds.now in
    let e : l.i ≡ length ks = omega arith in
    l.invariant.1 ∙ ap (sum (nodes_at (at (numbers_of ks)))) e
