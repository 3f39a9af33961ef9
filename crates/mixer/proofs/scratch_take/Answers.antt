use Rattle.std.proofs.Common.{◌≡◌, ◌+◌, ◌-◌, length, take, drop, ◌∙◌, sym, ap, rules, length-drop, length-take-le, arith}
use Rattle.std.specs.Float.{nan}
use Rattle.tree.specs.Block.{tab, tab-is}
use Rattle.block.specs.Iterate.{at, given}
use Rattle.mixer.proofs.scratch_take.Goals as goal

pub returns : goal.returns
unfolding given
returns c =
    let a = c.args in
    let n = length a.out.now in
    let x = take (a.at + n - a.at) (drop a.at a.scr.now) in
    let z : a.at + n - a.at ≡ n = omega arith in
    let long : length x ≡ n = rw z (length-take-le n (drop a.at a.scr.now) (omega (arith, length-drop a.at a.scr.now, c.requires))) in
    (c.run_block.ensures (λ k s. (at x k, s)) (λ k s r h p. search rules)).0
    ∙ sym (ap (λ m. tab m (at x)) long)
    ∙ tab-is nan x
    ∙ ap (λ m. take m (drop a.at a.scr.now)) z
