use Rattle.std.specs.Prelude.{◌≡◌, true, ◌&&◌, List, ℕ, ◌≤◌, length, get_or}
use Rattle.std.proofs.Common.{sym, ap₂, ◌∙◌}
use Rattle.std.proofs.lemmas.List.{length-map}
use Rattle.sheet.specs.Kinds.{is_node}
use Rattle.sheet.specs.Links.{at, LinksIn, LinkedIn, once_in}
use Rattle.sheet.specs.LinkLaws.{linked_of, shape-five, shape-six, shape-seven, shape-none}
use Rattle.sheet.specs.Numbers.{kind_number, numbers_of}
use Rattle.sheet.specs.declared.kinds.Kind.{Kind}
use Rattle.shape.proofs.Nodes.{node-at}
use Rattle.shape.proofs.shape.Goals as goal

kinds-long : (ks : List Kind) {n : ℕ} → length ks ≡ n → length (numbers_of ks) ≡ n
kinds-long ks e = length-map ks kind_number ∙ e

root-at : (ks : List Kind) (d : Kind) {n : ℕ} → length ks ≡ n → 1 ≤ n → is_node (at (numbers_of ks) 0) ≡ is_node (kind_number (get_or ks 0 d))
root-at ks d e h = node-at ks 0 d (kinds-long ks e) h

-- after check 5
linked-in : {ks fs ns : List ℕ} → LinksIn fs ns → length ks ≡ length fs → once_in fs ns ≡ true → LinkedIn ks fs ns
linked-in l e o = record { linked = linked_of l.links o; kinds_long = e; next_long = l.next_long }

pub invariant_of-t : goal.invariant_of-t
invariant_of-t c = record { linked = linked-in c.requires.links_in (kinds-long c.args.kinds.now c.requires.kinds_len.0) (sym c.once.ensures ∙ c.if-not-once.false) }

pub returns-then-not-once : goal.returns-then-not-once
returns-then-not-once c = shape-five _ _ _ _ (sym c.once.ensures ∙ c.if-not-once.true)

pub returns-then-not-chains_ok-is_node : goal.returns-then-not-chains_ok-is_node
returns-then-not-chains_ok-is_node c =
    let once = sym c.once.ensures ∙ c.if-not-once.false in
    shape-six _ _ _ _ once (sym (ap₂ ◌&&◌ c.chains_ok.ensures (c.is_node.ensures ∙ sym (root-at c.args.kinds.now _ c.requires.kinds_len.0 c.requires.kinds_len.1))) ∙ c.if-not-chains_ok-is_node.true)

pub returns-then-too_deep : goal.returns-then-too_deep
returns-then-too_deep c =
    let links = c.requires.links_in.links in
    let once = sym c.once.ensures ∙ c.if-not-once.false in
    let chains = sym (ap₂ ◌&&◌ c.chains_ok.ensures (c.is_node.ensures ∙ sym (root-at c.args.kinds.now _ c.requires.kinds_len.0 c.requires.kinds_len.1))) ∙ c.if-not-chains_ok-is_node.false in
    shape-seven _ _ _ _ links once chains (sym c.too_deep.ensures ∙ c.if-too_deep.true)

pub returns : goal.returns
returns c =
    let links = c.requires.links_in.links in
    let once = sym c.once.ensures ∙ c.if-not-once.false in
    let chains = sym (ap₂ ◌&&◌ c.chains_ok.ensures (c.is_node.ensures ∙ sym (root-at c.args.kinds.now _ c.requires.kinds_len.0 c.requires.kinds_len.1))) ∙ c.if-not-chains_ok-is_node.false in
    shape-none _ _ _ _ links once chains (sym c.too_deep.ensures ∙ c.if-too_deep.false)
