use Rattle.std.proofs.Common.{rules, ◌≡◌, ◌∙◌, ap, ◌++◌, drop, length, replicate, min}
use Rattle.vectors.proofs.Padding.{padded}
use Rattle.vectors.proofs.AnswersFromArrayU64.from.Goals as goal

pub returns : goal.returns
returns g c =
    let given : c.min-given.result ≡ min (length c.args.xs) 20 = search rules in
    record {
      first = ap (λ xs. xs ++ drop c.min-given.result (replicate 20 0)) c.copy_from_slice.ensures.after ∙ padded c.args.xs c.min-given.result given;
      number = given;
    }
