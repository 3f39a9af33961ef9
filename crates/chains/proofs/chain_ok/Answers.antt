-- `chains::chain_ok` meets its contract: what a chain holds is what may stand in it, and how many.
use Rattle.std.specs.Prelude.{◌≡◌, refl, true, false, Bool, cond, ◌&&◌, List, ℕ, ◌≤◌, ◌<◌, length, get_or, Option, Some, None}
use Rattle.std.proofs.Common.{sym, ap, ◌∙◌, arith}
use Rattle.std.proofs.lemmas.List.{length-map}
use Rattle.std.proofs.lemmas.Option.{cond_some, none-some}
use Rattle.sheet.specs.Kinds.{Chain, row_of}
use Rattle.sheet.specs.Checks.{every, holds, allows, counts}
use Rattle.sheet.specs.Links.{Linked, at, along, chain_at}
use Rattle.sheet.specs.LinkLaws.{holds-both, walk_start, walk-all, walk-count}
use Rattle.sheet.specs.Laws.{number-at}
use Rattle.sheet.specs.Numbers.{kind_number, numbers_of}
use Rattle.sheet.specs.declared.kinds.Kind.{Kind}
use Rattle.chains.proofs.chain_ok.Goals as goal

module _ {c h : Chain} (e : c ≡ h) (ks : List ℕ) {o : Option ℕ} (m : o ≡ cond (every (allows c) ks) (Some (length ks)) None) where
  counted : (n : ℕ) → o ≡ Some n → counts c n ≡ holds h ks
  counted n q =
      let p = cond_some (every (allows c) ks) (length ks) n (sym m ∙ q) in
      ap (counts c) (sym p.1) ∙ ap (λ (a : Bool). a && counts c (length ks)) (sym p.0) ∙ sym (holds-both c ks) ∙ ap (λ (g : Chain). holds g ks) e

  none : o ≡ None → false ≡ holds h ks
  none q = ap (λ (a : Bool). a && counts c (length ks)) (sym (go (every (allows c) ks) (sym m ∙ q))) ∙ sym (holds-both c ks) ∙ ap (λ (g : Chain). holds g ks) e
    where
      go : (b : Bool) → ◌≡◌ {A = Option ℕ} (cond b (Some (length ks)) None) None → b ≡ false
      go true z = absurd (none-some (length ks) (sym z))
      go false z = refl

-- a link of 0 opens a chain of no members
opens-none : {f x : ℕ → ℕ} {n : ℕ} → Linked f x n → (p : ℕ → Bool) (k : ℕ → ℕ) (i : ℕ) → f i ≡ 0 → 1 ≤ n
    → ◌≡◌ {A = Option ℕ} (Some 0) (cond (every p (along k f x n (f i))) (Some (length (along k f x n (f i)))) None)
opens-none {f} {x} {n} l p k i e h =
    let w = walk_start p k f x n (f i) (omega (arith, e, h)) in
    rw (sym (walk-all l w e), sym (walk-count l w e)) refl

-- the chain of the record's kind in the table is its number's
chain-at : (ks : List Kind) (i : ℕ) (d : Kind) {c : Chain} → c ≡ (row_of (kind_number (get_or ks i d))).chain → i < length (numbers_of ks) → c ≡ (row_of (at (numbers_of ks) i)).chain
chain-at ks i d e h = e ∙ ap (λ (k : ℕ). (row_of k).chain) (sym (number-at ks i d (omega (arith, length-map ks kind_number))))

pub returns-then-t-i-eq0 : goal.returns-then-t-i-eq0
unfolding chain_at
returns-then-t-i-eq0 c =
    let t = c.args.t.now in
    c.counts.ensures ∙ counted (chain-at t.kinds.now c.args.i _ c.chain-chain.ensures (omega (arith, t.linked.kinds_long, c.requires))) _ (opens-none t.linked.linked _ _ c.args.i c.if-t-i-eq0.true (omega arith)) _ refl

pub returns-in-Some : goal.returns-in-Some
unfolding chain_at
returns-in-Some c = c.counts-in-Some.ensures ∙ counted (chain-at c.args.t.now.kinds.now c.args.i _ c.chain-chain.ensures (omega (arith, c.args.t.now.linked.kinds_long, c.requires))) _ c.members.ensures _ c.in-Some.is

pub returns-in-None : goal.returns-in-None
unfolding chain_at
returns-in-None c = none (chain-at c.args.t.now.kinds.now c.args.i _ c.chain-chain.ensures (omega (arith, c.args.t.now.linked.kinds_long, c.requires))) _ c.members.ensures c.in-None.is
