use Rattle.std.proofs.Common.{false, ◌*◌, ◌^◌, ℕ, ap, ◌∙◌}
use Rattle.std.specs.Float.{binary32}
use lib.Ieee.{round}
use Rattle.float.proofs.Remainder.{upper, lower, far}
use Rattle.float.proofs.Units.rem.Goals as goal

pub returns-then-m-self : goal.returns-then-m-self
returns-then-m-self c =
    let x = c.args.self in
    let m = c.args.m in
    c.value.ensures
    ∙ ap (λ (z : ℕ). round binary32 false (z * 2 ^ m.power) (2 ^ 149)) c.rem_shifted-digits.ensures
    ∙ ap (λ (z : ℕ). round binary32 false z (2 ^ 149)) (upper x.digits x.power m.digits m.power c.requires c.if-m-self.true)

pub returns-then-m-self-lt24 : goal.returns-then-m-self-lt24
returns-then-m-self-lt24 c =
    let x = c.args.self in
    let m = c.args.m in
    c.value-then-m-self-lt24.ensures ∙ ap (λ (z : ℕ). round binary32 false z (2 ^ 149)) (lower x.digits x.power m.digits m.power c.requires m.short c.if-m-self.false c.if-m-self-lt24.true)

pub returns-else-m-self-lt24 : goal.returns-else-m-self-lt24
returns-else-m-self-lt24 c =
    let x = c.args.self in
    let m = c.args.m in
    c.value-else-m-self-lt24.ensures ∙ ap (λ (z : ℕ). round binary32 false z (2 ^ 149)) (far x.digits x.power m.digits m.power x.short c.requires c.if-m-self.false c.if-m-self-lt24.false)
