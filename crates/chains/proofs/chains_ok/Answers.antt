use Rattle.std.specs.Prelude.{◌≡◌, length}
use Rattle.std.proofs.Common.{sym, ap, ◌∙◌, arith, rules}
-- Invariants.antt names some of these too: it states the invariant, and here the laws about it are cited.
use Rattle.sheet.specs.Checks.{all}
use Rattle.sheet.specs.Links.{chain_in}
use Rattle.sheet.specs.Numbers.{numbers_of}
use Rattle.sheet.specs.Laws.{all-suc, all-fails}
use Rattle.chains.proofs.chains_ok.Goals as goal

pub loop-i-preserved : goal.loop-i-preserved
loop-i-preserved c =
    let l = c.loop-i in
    let a = c.args in
    all-suc (chain_in (numbers_of a.t.now.kinds.now) a.t.now.first.now a.t.now.next.now) l.i ∙ rw l.invariant (sym c.chain_ok.ensures ∙ c.if-not-chain_ok.false)

pub returns-then-not-chain_ok : goal.returns-then-not-chain_ok
returns-then-not-chain_ok c =
    let a = c.args in
    sym (all-fails (chain_in (numbers_of a.t.now.kinds.now) a.t.now.first.now a.t.now.next.now) (length a.t.now.first.now) c.loop-i.i (search rules) (sym c.chain_ok.ensures ∙ c.if-not-chain_ok.true))

pub returns : goal.returns
returns c =
    let l = c.loop-i in
    let a = c.args in
    let e : l.i ≡ length a.t.now.first.now = omega arith in
    sym l.invariant ∙ ap (all (chain_in (numbers_of a.t.now.kinds.now) a.t.now.first.now a.t.now.next.now)) e
