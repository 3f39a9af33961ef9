use Rattle.std.proofs.Common.{rules, ◌≡◌, ◌<◌, ◌∙◌, ap, sym, take, set, length, map, min, get_or, arith}
use Rattle.std.proofs.lemmas.List.{length-take, length-map, get_or-take, get_or-map}
use Rattle.std.specs.Float.Ieee as Ieee
use Rattle.std.specs.Float.{binary32}
use Rattle.vectors.proofs.Padding.{padded, overwritten}
use Rattle.vectors.proofs.AnswersFromArrayF32.from.Goals as goal

pub loop-i-preserved : goal.loop-i-preserved
loop-i-preserved g c =
    let i = c.loop-i.i in
    let xs = c.args.xs in
    let bits = Ieee.to_bits binary32 in
    let count : length (take c.min.result xs) ≡ min c.min.result (length xs) = length-take c.min.result xs in
    let below : i < c.min.result = omega (arith, count, c.loop-i-test.true) in
    let within : i < length xs = omega (arith, count, c.loop-i-test.true) in
    let within-bits : i < length (map bits xs) = omega (arith, within, length-map xs bits) in
    let few : i < 20 = omega (arith, below, c.min.ensures) in
    let word : c.of_single.result ≡ get_or (map bits xs) i 0 = c.of_single.ensures ∙ ap bits (get_or-take c.min.result xs i Ieee.nan below) ∙ sym (get_or-map bits xs i Ieee.nan 0 within) in
    (λ k. set (c.loop-i.invariant k) i (word k)) ∙ overwritten i (map bits xs) 0 within-bits few

pub returns : goal.returns
returns g c =
    let xs = c.args.xs in
    let bits = Ieee.to_bits binary32 in
    let long : length xs ≡ g.row.N = search rules in
    let count : length (take c.min.result xs) ≡ min c.min.result (length xs) = length-take c.min.result xs in
    let all : c.loop-i.i ≡ min (length (map bits xs)) 20 = omega (arith, long, count, c.min.ensures, c.loop-i.auto.i-end, c.loop-i-test.false, length-map xs bits) in
    record { first = c.loop-i.invariant ∙ padded (map bits xs) c.loop-i.i all; number = omega (arith, long, c.min-2.ensures, length-map xs bits) }
